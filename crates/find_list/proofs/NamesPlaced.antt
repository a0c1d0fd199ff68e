-- A list by its first tree and the rest: find, insertion, weight, and the place of a key.
use Prim.Native.Nat.{ℕ, suc, ◌+◌, ◌<◌}
use mathlib.Core.Path.{◌≡◌, refl, ◌∙◌}
use mathlib.Core.List.{List}
use native.Mathlib.Omega.{arith}
use borrow.Author.Tests.{ne_eqb}
use Rattle.source.specs.Text.{Str}
use Rattle.source.specs.Types.{Level, Value, NameList, []ᴺ, Names, ImportedNames}
use Rattle.source.specs.Trees.{btree_insert_replace, btree_find_exact}
use Rattle.source.specs.Tries.{or_else, names_find_exact, names_insert}
use Rattle.source.specs.Terms.{weight}
use Rattle.source.specs.Plans.{first_tree}
use Rattle.memory.specs.Stored.{weight_in}
use Rattle.memory.proofs.Seen.{link_later}
use mathlib.Core.Bool.{true, false, true≢false, false≢true}
use Rattle.std.specs.Prelude.{Option, Some, None, IfSome, is_some}
use Rattle.std.specs.Option.{unwrap_or}
use Rattle.find_tree.specs.declared.Place.{Place}
use Rattle.find_tree.specs.Tree.{FindsBranch, Placed}
use Rattle.find_list.specs.Names.{first_rest, AnyList, Led, Holder, NamesPlaced}
use Rattle.find_list.proofs.Collections.{list_weight, list_light, any_rest}
use Rattle.memory.proofs.At.{at_of}
use Rattle.memory.specs.Layout.{tree, list}

module _ {A : Type 0} {ℓ : Level} where
  pub names_find_exact_first : (nl : NameList A ℓ) (k : Str)
      → names_find_exact nl k ≡ or_else (btree_find_exact (first_tree nl) k) (names_find_exact (first_rest nl) k)
  unfolding names_find_exact btree_find_exact or_else first_tree first_rest
  names_find_exact_first []ᴺ k = refl
  names_find_exact_first (Names bt tl) k = refl
  names_find_exact_first (ImportedNames label inner tl) k = refl

  pub names_insert_first : (nl : NameList A ℓ) (k : Str) (v : Value A ℓ)
      → names_insert nl k v ≡ Names (btree_insert_replace (first_tree nl) k v) (first_rest nl)
  unfolding names_insert first_tree first_rest
  names_insert_first []ᴺ k v = refl
  names_insert_first (Names bt tl) k v = refl
  names_insert_first (ImportedNames label inner tl) k v = refl

  pub names_insert_rest_weight : (nl : NameList A ℓ) (k : Str) (v : Value A ℓ)
      → weight (names_insert nl k v) ≡ suc (weight (first_rest nl))
  unfolding weight
  names_insert_rest_weight nl k v = rw names_insert_first

module _ {ws txt : List ℕ} {x first rest : ℕ} {key : Str} (d : Led ws x first rest) where
  -- The first tree has the key.
  pub holder_first : (link : Option ℕ) → FindsBranch ws txt first key (unwrap_or link 0) → IfSome link (λ l. 0 < l)
      → is_some link ≡ true → Holder ws txt x key (unwrap_or link 0)
  unfolding or_else
  holder_first None f n e w v t = absurd (false≢true e)
  holder_first (Some link) f p e w v t =
      let i = d txt w v t in
      let g = f w v (at_of t (tree _) (omega arith) i.first_link) in
      record {
        link = link_later (omega (arith, i.first_link.earlier)) g.link;
        has_key = g.has_key;
        says = names_find_exact_first _ key ∙ rw (i.first_reads, g.says, ne_eqb link 0 (λ z. omega arith));
      }

  -- It has not.
  pub holder_rest : (link : Option ℕ) → FindsBranch ws txt first key (unwrap_or link 0) → is_some link ≡ false → {r : ℕ}
      → Holder ws txt rest key r → Holder ws txt x key r
  unfolding or_else
  holder_rest (Some link) f z h w v t = absurd (true≢false z)
  holder_rest None f z h w v t =
      let e = d txt w v t in
      let g = f w v (at_of t (tree _) (omega arith) e.first_link) in
      let s = h w v (at_of t (list _) (omega arith) e.rest_link) in
      record {
        link = link_later (omega (arith, e.rest_link.earlier)) s.link;
        has_key = s.has_key;
        says = names_find_exact_first _ key ∙ rw (e.first_reads, e.rest_reads, g.says, s.says);
      }

pub names_placed : {ws txt : List ℕ} {x first rest : ℕ} {key : Str} {p : Place} {holder : Option ℕ} {wt : ℕ}
    → AnyList ws txt x
    → Led ws x first rest
    → Placed ws txt first key p → IfSome holder (λ link. 0 < link) → Holder ws txt x key (unwrap_or holder 0)
    → wt ≡ weight_in ws rest + 1
    → NamesPlaced ws txt x key holder p.count wt
names_placed {ws} {txt} {x} {first} {rest} {key} a d p n h q = record {
  nonzero = n;
  found = h;
  small = omega (arith, p.builds.small, (d txt _ _ a.list).first_link.earlier);
  light = omega (arith, q, list_light (any_rest a d).list);
  inserts = λ w v t.
      let e = d txt w v t in
      record {
        builds = p.builds.says w v (at_of t (tree _) (omega arith) e.first_link) ∙ rw e.first_reads;
        weighs = λ b. rw (names_insert_rest_weight, e.rest_reads) (omega (arith, q, list_weight (at_of t (list _) (omega arith) e.rest_link)));
      };
}
