-- What a writer of records makes.
use Rattle.std.specs.Prelude.{ℕ, ◌+◌, ◌*◌, ◌≤◌, max, ◌≡◌, List, length, drop}
use Rattle.source.specs.Limits.{most_used, record_words}
use Rattle.source.specs.Types.{Level, trie, bind, ns, Names, ImportedNames}
use Rattle.source.specs.Rules.{IsLabel}
use Rattle.memory.specs.Layout.{span, Which, Item, Sort, tree, list, trieˢ, Of, kind, what}
use Rattle.memory.specs.Sound.{LinkOk, TextOk, Used}
use Rattle.memory.specs.Stored.{depth_in}
use Rattle.memory.specs.Made.{collection_row}
use Rattle.memory.specs.declared.Collection.{Collection}
use Rattle.memory.specs.Grown.{Stays}

-- Room for m records after the first n.
pub record Room (ws : List ℕ) (n m : ℕ) : Type 0 where
  pub few : n + m ≤ most_used
  pub fits : (n + m) * record_words ≤ length ws

-- After the first n records, which stay, those up to n′ are right; link r reads as v; no word past them has changed.
pub record Made (ws ws' txt : List ℕ) (n n' used : ℕ) (w : Which) (so : Sort) (r : ℕ)
    (v : Of (Item w) so) : Type 0 where
  pub grows : n ≤ n'
  pub sound : Used ws' txt n' used
  pub stays : Stays n ws ws'
  pub beyond : drop (n' * record_words) ws' ≡ drop (n' * record_words) ws
  pub link : LinkOk ws' (n' + 1) r (kind w so)
  pub reads : what w ws' txt r so ≡ v

-- The words of a collection, its depth by what its two links store.
abbrev pub collection_over : (ws : List ℕ) (kd : ℕ) → Collection → List ℕ
collection_over ws kd c = collection_row kd c (max (depth_in ws c.own) (depth_in ws c.rest))

-- Names of a tree in front of a list, as the record after the first n.
abbrev pub MadeNames : (ws ws' : List ℕ) (n kd own rest r : ℕ) → Type 0
MadeNames ws ws' n kd own rest r =
    (txt : List ℕ) (used : ℕ) (w : Which) (ℓ : Level) → Used ws txt n used → kd ≡ kind w (list ℓ)
    → LinkOk ws (n + 1) own (kind w (tree ℓ)) → LinkOk ws (n + 1) rest (kind w (list ℓ))
    → Made ws ws' txt n (n + 1) used w (list ℓ) r (Names (what w ws txt own (tree ℓ)) (what w ws txt rest (list ℓ)))

-- ImportedNames of a label and a list in front of a list, as the record after the first n.
abbrev pub MadeImported : (ws ws' : List ℕ) (n kd start len own rest r : ℕ) → Type 0
MadeImported ws ws' n kd start len own rest r =
    (txt : List ℕ) (used : ℕ) (w : Which) (ℓ : Level) → Used ws txt n used → kd ≡ kind w (list ℓ)
    → TextOk IsLabel txt used start len
    → LinkOk ws (n + 1) own (kind w (list ℓ)) → LinkOk ws (n + 1) rest (kind w (list ℓ))
    → Made ws ws' txt n (n + 1) used w (list ℓ) r
    (ImportedNames (span txt start len) (what w ws txt own (list ℓ)) (what w ws txt rest (list ℓ)))

-- The trie of two lists, as the record after the first n.
abbrev pub MadeTrie : (ws ws' : List ℕ) (n kd a b r : ℕ) → Type 0
MadeTrie ws ws' n kd a b r =
    (txt : List ℕ) (used : ℕ) (w : Which) → Used ws txt n used → kd ≡ kind w trieˢ
    → LinkOk ws (n + 1) a (kind w (list bind)) → LinkOk ws (n + 1) b (kind w (list ns))
    → Made ws ws' txt n (n + 1) used w trieˢ r (trie (what w ws txt a (list bind)) (what w ws txt b (list ns)))
