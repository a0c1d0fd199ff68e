-- What the answers of the parts of a branch's test say together.
use Prim.Native.Nat.{ℕ, suc, ◌+◌, max}
use mathlib.Core.Path.{◌≡◌, sym, ◌∙◌}
use mathlib.Core.Bool.{Bool}
use mathlib.Core.List.{List}
use native.Mathlib.Omega.{arith}
use lib.Dec.{eqb}
use Rattle.source.specs.Types.{ns}
use Rattle.source.specs.Terms.{depth_tree}
use Rattle.memory.specs.Layout.{Which, tree, trieˢ, kind, row, what, trie_link, depth_word}
use Rattle.memory.specs.Stored.{depth_of, depth_in}
use Rattle.memory.specs.Sound.{Says, LinkOk, BranchOk}
use Rattle.memory.proofs.Says.{says_iff}
use Rattle.memory.proofs.StoredSizes.{depth_branch}
use Rattle.sound_field.specs.Fields.{Before}
use Rattle.sound_field.proofs.Tests.{says_same}

pub says_equal : (b : Bool) {x y x' y' : ℕ} → x ≡ x' → y ≡ y' → Says b (x ≡ y) → Says b (x' ≡ y')
says_equal b e f h = says_iff b h (λ q. sym e ∙ q ∙ f) (λ q. e ∙ q ∙ sym f)

-- The depth of a branch of namespaces: x its trie's, e its links'.
module _ {ws txt : List ℕ} {used l : ℕ} (b : Before ws txt used l) {w : Which} {r : List ℕ}
    (o : BranchOk ws txt used l w r ns) (h : LinkOk ws l (trie_link r) (kind w trieˢ))
    {x e : ℕ} (i : x ≡ depth_in ws (trie_link r)) (j : e ≡ depth_of ws r) where
  both : max (suc x) e ≡ depth_tree (row w txt r (what w ws txt) (tree ns))
  both = rw (i, j) (depth_branch b.rows w o h)

  pub says_held : {s m : ℕ} → s ≡ depth_word r → m ≡ max (1 + x) e
      → Says (eqb s m) (LinkOk ws l (trie_link r) (kind w trieˢ)
      × (depth_word r ≡ depth_tree (row w txt r (what w ws txt) (tree ns))))
  says_held {s} {m} f k =
      let z : 1 + x ≡ suc x = omega arith in
      says_iff (eqb s m) (says_equal (eqb s m) f (rw z at k ∙ both) (says_same s m)) (λ q. (h, q)) (λ a. a.1)
