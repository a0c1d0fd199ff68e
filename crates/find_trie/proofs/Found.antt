-- A walk down the path of a query, segment by segment: where it stands, and what it finds.
use Prim.Native.Nat.{ℕ, ◌≤◌, ◌<◌}
use mathlib.Core.Path.{◌≡◌, refl, sym, ◌∙◌}
use mathlib.Core.Bool.{true}
use mathlib.Core.List.{List, [], ◌∷◌}
use mathlib.Core.Option.{Option, none, some}
use native.Mathlib.Omega.{arith}
use lib.ListN.{length}
use Rattle.source.specs.Text.{Str, Query, segments, ends_in_dot}
use Rattle.source.specs.Types.{Trie, bind, namespaces, bindings, trie_empty}
use Rattle.source.specs.Tries.{dflt, bind_option, names_find_exact, trie_find_exact, scope_of, included}
use Rattle.source.specs.Plans.{host_of}
use Rattle.source.proofs.Hosts.{host_of_step, included_host}
use Rattle.text_query.proofs.Segments.{first_segment, before_inside}
use Rattle.memory.specs.Layout.{Which, Item, trieˢ, what}
use Rattle.memory.specs.Read.{ReadTrie}
use Rattle.memory.specs.declared.Trie as M
use Rattle.memory.proofs.Seen.{link_later}
use Rattle.find_list.specs.Names.{Holder}
use Rattle.find_trie.specs.Tries.{Scope, FindsExactIn}
use Rattle.memory.proofs.Tries.{lists_seen, bindings_at, namespaces_at, bindings_read}
use Rattle.find_trie.proofs.Links.{scope_up}
use Rattle.memory.specs.Sound.{At, Reads}
use Rattle.memory.proofs.At.{no_link, at_of}

-- The walk has come to the trie of link, with the segments of rest before it, of which C holds.
pub record Walked (ws txt : List ℕ) (w : Which) (root link : ℕ) (rest : Query)
    (C : Trie (Item w) → Query → Type 0) : Type 0 where
  pub earlier : link ≤ root
  pub here : At ws txt w trieˢ link
  pub says : C (what w ws txt link trieˢ) rest

pub walked_first : {ws txt : List ℕ} {w : Which} {root : ℕ} {rest : Query} (C : Trie (Item w) → Query → Type 0)
    → At ws txt w trieˢ root → C (what w ws txt root trieˢ) rest → Walked ws txt w root root rest C
walked_first C t c = record { earlier = omega arith; here = t; says = c }

module _ {ws txt : List ℕ} {w : Which} {root link : ℕ} {rest left : Query} {s : Str}
    {C : Trie (Item w) → Query → Type 0} (g : Walked ws txt w root link rest C) where
  -- One segment down.
  pub walked_next : {next : ℕ} → rest ≡ s ∷ left
      → Reads ws txt w link next (scope_of (namespaces (what w ws txt link trieˢ)) s)
      → (C (what w ws txt link trieˢ) (s ∷ left) → C (scope_of (namespaces (what w ws txt link trieˢ)) s) left)
      → Walked ws txt w root next left C
  walked_next e r f = record {
    earlier = omega (arith, r.link.earlier, g.earlier);
    here = at_of g.here trieˢ (omega arith) r.link;
    says = rw r.says (f (rw e at g.says));
  }

-- The scope of a segment.
pub scope_below : {ws txt : List ℕ} {w : Which} {link next : ℕ} {p : M.Trie} (s : Str) → At ws txt w trieˢ link
    → ReadTrie ws link p → Scope ws txt p.namespaces s next
    → Reads ws txt w link next (scope_of (namespaces (what w ws txt link trieˢ)) s)
scope_below {w = w} s t q h = scope_up t q s (h w (namespaces_at t q))

-- ---- the included trie

-- What is left of a descent: the host of the segments left.
pub record Descends {A : Type 0} (tr : Trie A) (q : Query) (at : Trie A) (rest : Query) : Type 0 where
  pub host : included tr q ≡ host_of at rest

pub descends_all : {A : Type 0} (tr : Trie A) (q : Query) → Descends tr q tr q
descends_all tr q = record { host = included_host tr q }

pub descends_next : {A : Type 0} {tr at : Trie A} {q rest : Query} {s : Str} → Descends tr q at (s ∷ rest)
    → Descends tr q (scope_of (namespaces at) s) rest
descends_next d = record { host = d.host ∙ host_of_step _ _ _ }

pub descended : {ws txt : List ℕ} {w : Which} {root link : ℕ} {rest : Query} {tr : Trie (Item w)} {q : Query}
    → Walked ws txt w root link rest (Descends tr q) → rest ≡ [] → Reads ws txt w root link (included tr q)
unfolding host_of
descended g e = record { link = record { earlier = omega (arith, g.earlier); of_kind = g.here.link.of_kind }; says = sym (rw e at g.says).host }

-- ---- look-up

-- What is left of a look-up: that of the segments left.
pub record Finds {A : Type 0} (tr : Trie A) (q : Query) (at : Trie A) (rest : Query) : Type 0 where
  pub same : trie_find_exact tr q ≡ trie_find_exact at rest

pub finds_all : {A : Type 0} (tr : Trie A) (q : Query) → Finds tr q tr q
finds_all tr q = record { same = refl }

module _ {A : Type 0} where
  find_empty : (q : Query) → trie_find_exact (trie_empty {A = A}) q ≡ none
  unfolding trie_find_exact trie_empty names_find_exact namespaces bindings bind_option
  find_empty [] = refl
  find_empty (s ∷ []) = refl
  find_empty (s ∷ (t ∷ q)) = refl

  -- A segment that is not the last goes on in its scope.
  find_step : (tr : Trie A) (s : Str) (q : Query) → 0 < length q
      → trie_find_exact tr (s ∷ q) ≡ trie_find_exact (scope_of (namespaces tr) s) q
  unfolding trie_find_exact scope_of bind_option dflt
  find_step tr s [] h = absurd (omega arith)
  find_step tr s (t ∷ q) h = go (names_find_exact (namespaces tr) s)
    where
      go : (o : Option (Trie A))
          → bind_option o (λ scope. trie_find_exact scope (t ∷ q)) ≡ trie_find_exact (dflt trie_empty o) (t ∷ q)
      go none = sym (find_empty (t ∷ q))
      go (some scope) = refl

pub some_left : (s : Str) → ends_in_dot s ≡ true → 0 < length s → 0 < length (segments s)
some_left s e h = rw (first_segment s (before_inside s e h)).splits (omega arith)

module _ {ws txt : List ℕ} {w : Which} {root link : ℕ} {rest q : Query}
    (g : Walked ws txt w root link rest (Finds (what w ws txt root trieˢ) q)) where
  -- At the last segment: a holder in the bindings.
  pub found_last : {r : ℕ} {s : Str} {p : M.Trie} → rest ≡ s ∷ [] → ReadTrie ws link p
      → Holder ws txt p.bindings s r → FindsExactIn ws txt w root q r
  unfolding trie_find_exact
  found_last e z h =
      let i = h w bind (bindings_at g.here z) in
      record {
        link = link_later (omega (arith, (lists_seen g.here z).bindings.earlier, g.earlier)) i.link;
        says = g.says.same ∙ rw (e, ← bindings_read g.here z) i.says;
      }

  -- No segment: none.
  pub found_none : rest ≡ [] → FindsExactIn ws txt w root q 0
  unfolding trie_find_exact
  found_none e = record { link = no_link root _; says = (rw e at g.says).same }

pub finds_next : {A : Type 0} {tr at : Trie A} {q rest : Query} {s : Str} → 0 < length rest → Finds tr q at (s ∷ rest)
    → Finds tr q (scope_of (namespaces at) s) rest
finds_next h e = record { same = e.same ∙ find_step _ _ _ h }
