-- Changes of a trie: what each asks, the source's mut_leaf of each with its records, and what it makes.
use Rattle.std.specs.Prelude.{ℕ, ◌+◌, ◌-◌, ◌≤◌, ◌≡◌, Bool, true, false, List}
use Rattle.source.specs.Limits.{heaviest_list, deepest_trie}
use Rattle.source.specs.Types.{Trie, item, trie, []ᴺ, ImportedNames, bindings, namespaces}
use Rattle.source.specs.Terms.{heaviest, depth}
use Rattle.source.specs.Rules.{IsKey, IsLabel, IsPath}
use Rattle.source.specs.Counted.{Counted, pure, one, ◌>>=◌, names_insertᶜ}
use Rattle.memory.specs.Layout.{Which, names, Item, Sort, trieˢ, Of, kind, what}
use Rattle.memory.specs.Sound.{LinkOk, TextOk, Used}
use Rattle.memory.specs.Read.{text_of}
use Rattle.memory.specs.declared.Span.{Span}
use Rattle.insert_record.specs.Made.{Room, Made}
use Rattle.register_way.specs.Way.{which_by, HostBuilds}
use Rattle.register_kind.specs.Shapes.{shape_of}
use Rattle.register_kind.specs.declared.CallKind.{CallKind}
use Rattle.register_kind.specs.declared.CallKind.TheVariants.{Name, Include, Open, Alias, Module}
use Rattle.register_kind.specs.declared.Form.{Form}
use Rattle.register_kind.specs.declared.Form.TheVariants as form
use Rattle.register_leaf.specs.declared.Change.{Change}
use Rattle.register_leaf.specs.declared.Built.{Built}

-- ---- Changes

-- The table that a change is of.
abbrev pub which_of : Change → Which
which_of ch = which_by (shape_of ch.kind).form

-- A change by its parts.
abbrev pub change_of : CallKind → (text key : Span) (inc : ℕ) → Change
change_of k text key inc = record { kind = k; text = text; key = key; inc = inc }

-- The change ch, where its kind is k.
abbrev pub with_kind : CallKind → Change → Change
with_kind k ch = change_of k ch.text ch.key ch.inc

-- The label of an included query: without its last dot.
abbrev pub label_in : Span → Span
label_in text = record { start = text.start; len = text.len - 1 }

-- mut_leaf of each kind: inc is the included trie.
unfoldable pub leaf_by : (ws txt : List ℕ) (k : CallKind) (text key : Span) (inc : ℕ)
    → Trie (Item (which_by (shape_of k).form)) → Counted (Trie (Item (which_by (shape_of k).form)))
leaf_by ws txt (Name k n) text key inc tr = do
  b ← names_insertᶜ (bindings tr) (text_of txt text) (item (record { kind = k; number = n }))
  one (trie b (namespaces tr))
leaf_by ws txt Include text key inc tr = do
  b ← one (ImportedNames (text_of txt (label_in text)) (bindings (what names ws txt inc trieˢ)) (bindings tr))
  one (trie b (namespaces tr))
leaf_by ws txt Open text key inc tr = do
  n ← one (ImportedNames (text_of txt (label_in text)) (namespaces (what names ws txt inc trieˢ)) (namespaces tr))
  one (trie (bindings tr) n)
leaf_by ws txt Alias text key inc tr = do
  scope ← do
    b ← one (ImportedNames (text_of txt (label_in text)) (bindings (what names ws txt inc trieˢ)) []ᴺ)
    one (trie b []ᴺ)
  n ← names_insertᶜ (namespaces tr) (text_of txt key) scope
  one (trie (bindings tr) n)
leaf_by ws txt (Module loaded) text key inc tr = pure tr

abbrev pub leaf_of : (ws txt : List ℕ) (ch : Change) → Trie (Item (which_of ch)) → Counted (Trie (Item (which_of ch)))
leaf_of ws txt ch tr = leaf_by ws txt ch.kind ch.text ch.key ch.inc tr

-- ---- What a change asks

-- The second text, by the form.
abbrev pub TextFor : Form → (txt : List ℕ) (used : ℕ) → Span → Type 0
TextFor form.Name txt used text = TextOk IsKey txt used text.start text.len
TextFor form.Import txt used text = TextOk IsLabel txt used text.start (text.len - 1)
TextFor (form.Module loaded) txt used text = TextOk IsPath txt used text.start text.len

-- The key, where the kind has one.
abbrev pub KeyFor : (keyed : Bool) (txt : List ℕ) (used : ℕ) → Span → Type 0
KeyFor true txt used key = TextOk IsKey txt used key.start key.len
KeyFor false txt used key = Unit {0}

-- The included trie of an import.
abbrev pub Included : Form → (ws : List ℕ) (n inc : ℕ) → Type 0
Included form.Name ws n inc = Unit {0}
Included form.Import ws n inc = LinkOk ws (n + 1) inc (kind names trieˢ)
Included (form.Module loaded) ws n inc = Unit {0}

-- A memory with a change to make.
pub record ChangeOk (ws txt : List ℕ) (n used : ℕ) (ch : Change) : Type 0 where
  pub sound : Used ws txt n used
  pub text : TextFor (shape_of ch.kind).form txt used ch.text
  pub key : KeyFor (shape_of ch.kind).keyed txt used ch.key
  pub inc : Included (shape_of ch.kind).form ws n ch.inc

-- Room for the records of a trie, and no list of it too heavy, nor itself too deep.
pub record Fits {A : Type 0} (ws : List ℕ) (n : ℕ) (c : Counted (Trie A)) : Type 0 where
  pub room : Room ws n c.count
  pub light : heaviest c.value ≤ heaviest_list
  pub shallow : depth c.value ≤ deepest_trie

-- What mut_leaf asks.
pub record Leaf (ws txt : List ℕ) (n used x : ℕ) (ch : Change) : Type 0 where
  pub change : ChangeOk ws txt n used ch
  pub link : LinkOk ws (n + 1) x (kind (which_of ch) trieˢ)
  pub fits : Fits ws n (leaf_of ws txt ch (what (which_of ch) ws txt x trieˢ))

-- The branches that mut_leaf's insertion builds.
abbrev pub LeafBuilds : (ws txt : List ℕ) (x : ℕ) (ch : Change) (count : ℕ) → Type 0
LeafBuilds ws txt x ch count =
    HostBuilds ch.kind (text_of txt ch.text) (text_of txt ch.key) (what (which_of ch) ws txt x trieˢ) count

-- Of some text used.
pub record Some (P : ℕ → Type 0) : Type 0 where
  pub used : ℕ
  pub holds : P used

-- ---- What a change makes

-- The records of a counted value are made, and no other: link reads as the value, and n′ records are used.
pub record Builds (ws ws' txt : List ℕ) (n used : ℕ) (w : Which) (so : Sort) (c : Counted (Of (Item w) so))
    (link n' : ℕ) : Type 0 where
  pub number : n' ≡ n + c.count
  pub made : Made ws ws' txt n n' used w so link c.value

-- The record that was made last: its link is the number of records used.
abbrev pub built : ℕ → Built
built link = record { link = link; records = link }

-- mut_leaf, for any text used.
abbrev pub LeafBuilt : (ws ws' txt : List ℕ) (n x : ℕ) (ch : Change) (link n' : ℕ) → Type 0
LeafBuilt ws ws' txt n x ch link n' =
    (used : ℕ) → Leaf ws txt n used x ch
    → Builds ws ws' txt n used (which_of ch) trieˢ (leaf_of ws txt ch (what (which_of ch) ws txt x trieˢ)) link n'
