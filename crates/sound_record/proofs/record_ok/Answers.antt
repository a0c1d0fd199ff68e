-- `record_ok` meets its contract.
use Prim.Native.Nat.{ℕ}
use mathlib.Core.Path.{refl, ap, ◌∙◌}
use mathlib.Core.List.{List}
use lib.Dec.{eqb}
use lib.ListN.{get_or}
use mathlib.Core.Logic.{⊎_elim}
use native.Mathlib.Omega.{arith}
use Rattle.source.specs.Types.{bind, ns}
use Rattle.memory.specs.Layout.{names, modules, tree, list, trieˢ, depth_word}
use Rattle.memory.proofs.Says.{says_holds, says_fails, says_iff, says_true}
use Rattle.memory.proofs.RecordOk.{own_earlier}
use Rattle.memory.proofs.StoredSizes.{depth_collection}
use Rattle.sound_record.proofs.RecordOk.{known_as, kind_beside, kind_none, right_as, says_record, before_length}
use Rattle.sound_field.proofs.Tests.{says_same}
use Rattle.sound_branch.proofs.Branches.{says_equal}
use Rattle.sound_record.proofs.record_ok.Goals as goal

pub bounds-t-0 : goal.bounds-t-0
bounds-t-0 c =
    omega (arith, before_length c.requires.before c.requires.row_value)

pub branch_ok-requires : goal.branch_ok-requires
branch_ok-requires c =
    let pre = c.requires in
    record {
      before = pre.before;
      tree_kind = record { which = names; level = bind; is = c.in-1.is };
      row_len = before_length pre.before pre.row_value;
      noted = pre.noted;
    }

pub returns-then-not-branch_ok : goal.returns-then-not-branch_ok
returns-then-not-branch_ok c o =
    let a = right_as c.requires.before c.requires.row_value names (tree bind) c.in-1.is o in
    says_fails c.branch_ok.result (c.branch_ok.ensures names bind c.in-1.is) c.if-not-branch_ok.true (a.0, a.1)

pub bounds-t-6 : goal.bounds-t-6
bounds-t-6 c =
    omega (arith, before_length c.requires.before c.requires.row_value)

pub branch_ok-requires-in-6 : goal.branch_ok-requires-in-6
branch_ok-requires-in-6 c =
    let pre = c.requires in
    record {
      before = pre.before;
      tree_kind = record { which = modules; level = bind; is = c.in-6.is };
      row_len = before_length pre.before pre.row_value;
      noted = pre.noted;
    }

pub returns-then-not-branch_ok-2 : goal.returns-then-not-branch_ok-2
returns-then-not-branch_ok-2 c o =
    let a = right_as c.requires.before c.requires.row_value modules (tree bind) c.in-6.is o in
    says_fails c.branch_ok-in-6.result (c.branch_ok-in-6.ensures modules bind c.in-6.is) c.if-not-branch_ok-2.true (a.0, a.1)

pub symbol_ok-requires : goal.symbol_ok-requires
symbol_ok-requires c =
    let pre = c.requires in (pre.before.text, before_length pre.before pre.row_value)

pub branch_ok-requires-in-2 : goal.branch_ok-requires-in-2
branch_ok-requires-in-2 c =
    let pre = c.requires in let n = known_as (tree ns) c.in-2.is in
    record {
      before = pre.before;
      tree_kind = record { which = n.0; level = ns; is = n.1 };
      row_len = before_length pre.before pre.row_value;
      noted = pre.noted;
    }

pub returns-then-not-branch_ok-3 : goal.returns-then-not-branch_ok-3
returns-then-not-branch_ok-3 c o =
    let n = known_as (tree ns) c.in-2.is in
    let a = right_as c.requires.before c.requires.row_value n.0 (tree ns) n.1 o in
    says_fails c.branch_ok-in-2.result (c.branch_ok-in-2.ensures n.0 ns n.1) c.if-not-branch_ok-3.true (a.0, a.1)

pub overflow_add-k : goal.overflow_add-k
overflow_add-k c =
    ⊎_elim (λ e. omega arith) (λ e. omega arith) c.in-2.is

pub held_ok-requires : goal.held_ok-requires
held_ok-requires c =
    let pre = c.requires in
    let n = known_as (tree ns) c.in-2.is in
    let a = (says_holds c.branch_ok-in-2.result (c.branch_ok-in-2.ensures n.0 ns n.1) c.if-not-branch_ok-3.false).0 in
    record {
      before = pre.before;
      row_len = before_length pre.before pre.row_value;
      row_bound = (a.left.earlier, a.right.earlier);
    }

pub overflow_sub-k : goal.overflow_sub-k
overflow_sub-k c =
    ⊎_elim (λ e. omega arith) (λ e. omega arith) c.in-3.is

pub collection_ok-requires : goal.collection_ok-requires
collection_ok-requires c =
    let pre = c.requires in record { before = pre.before; row_len = before_length pre.before pre.row_value }

pub overflow_sub-k-in-4 : goal.overflow_sub-k-in-4
overflow_sub-k-in-4 c =
    ⊎_elim (λ e. omega arith) (λ e. omega arith) c.in-4.is

pub collection_ok-requires-in-4 : goal.collection_ok-requires-in-4
collection_ok-requires-in-4 c =
    let pre = c.requires in record { before = pre.before; row_len = before_length pre.before pre.row_value }

pub returns-then-not-collection_ok : goal.returns-then-not-collection_ok
returns-then-not-collection_ok c o =
    let n = known_as (list ns) c.in-4.is in
    let t = kind_beside n.0 (list ns) (tree ns) n.1 (⊎_elim (λ e. omega arith) (λ e. omega arith) c.in-4.is) in
    let a = right_as c.requires.before c.requires.row_value n.0 (list ns) n.1 o in
    says_fails c.collection_ok-in-4.result (c.collection_ok-in-4.ensures n.0 ns n.1 t) c.if-not-collection_ok.true (a.0, a.1)

pub bounds-t-11 : goal.bounds-t-11
bounds-t-11 c =
    omega (arith, before_length c.requires.before c.requires.row_value)

pub deeper-requires : goal.deeper-requires
deeper-requires c =
    let n = known_as (list ns) c.in-4.is in
    let t = kind_beside n.0 (list ns) (tree ns) n.1 (⊎_elim (λ e. omega arith) (λ e. omega arith) c.in-4.is) in
    let a = (says_holds c.collection_ok-in-4.result (c.collection_ok-in-4.ensures n.0 ns n.1 t) c.if-not-collection_ok.false).0 in
    (c.requires.before.fits, before_length c.requires.before c.requires.row_value, own_earlier a, a.rest.earlier)

pub overflow_sub-k-in-5 : goal.overflow_sub-k-in-5
overflow_sub-k-in-5 c =
    ⊎_elim (λ e. omega arith) (λ e. omega arith) c.in-5.is

pub overflow_sub-k-in-5-2 : goal.overflow_sub-k-in-5-2
overflow_sub-k-in-5-2 c =
    ⊎_elim (λ e. omega arith) (λ e. omega arith) c.in-5.is

pub trie_ok-requires : goal.trie_ok-requires
trie_ok-requires c =
    let pre = c.requires in record { before = pre.before; row_len = before_length pre.before pre.row_value }

pub returns-else-not-branch_ok : goal.returns-else-not-branch_ok
returns-else-not-branch_ok c =
    let b = (says_holds c.branch_ok.result (c.branch_ok.ensures names bind c.in-1.is) c.if-not-branch_ok.false) in
    says_record c.requires.before c.requires.row_value names (tree bind) c.in-1.is c.is_kind.result
    (says_iff c.is_kind.result (says_true c.is_kind.result _ c.is_kind.ensures) (λ a. (b.0, b.1, a)) (λ a. a.2))

pub returns-else-not-branch_ok-2 : goal.returns-else-not-branch_ok-2
returns-else-not-branch_ok-2 c =
    let b = (says_holds c.branch_ok-in-6.result (c.branch_ok-in-6.ensures modules bind c.in-6.is) c.if-not-branch_ok-2.false) in
    says_record c.requires.before c.requires.row_value modules (tree bind) c.in-6.is c.symbol_ok.result
    (says_iff c.symbol_ok.result c.symbol_ok.ensures (λ a. (b.0, b.1, a)) (λ a. a.2))

pub returns-else-not-branch_ok-3 : goal.returns-else-not-branch_ok-3
returns-else-not-branch_ok-3 c =
    let n = known_as (tree ns) c.in-2.is in
    let b = (says_holds c.branch_ok-in-2.result (c.branch_ok-in-2.ensures n.0 ns n.1) c.if-not-branch_ok-3.false) in
    let t = kind_beside n.0 (tree ns) trieˢ n.1 (⊎_elim (λ e. omega arith) (λ e. omega arith) c.in-2.is) in
    says_record c.requires.before c.requires.row_value n.0 (tree ns) n.1 c.held_ok.result
    (says_iff c.held_ok.result (c.held_ok.ensures n.0 t b.0) (λ a. (b.0, b.1, a.0, a.1)) (λ a. (a.2, a.3)))

pub returns-in-3 : goal.returns-in-3
returns-in-3 c =
    let n = known_as (list bind) c.in-3.is in
    let t = kind_beside n.0 (list bind) (tree bind) n.1 (⊎_elim (λ e. omega arith) (λ e. omega arith) c.in-3.is) in
    says_record c.requires.before c.requires.row_value n.0 (list bind) n.1 c.collection_ok.result (c.collection_ok.ensures n.0 bind n.1 t)

pub returns-else-not-collection_ok : goal.returns-else-not-collection_ok
returns-else-not-collection_ok c =
    let n = known_as (list ns) c.in-4.is in
    let t = kind_beside n.0 (list ns) (tree ns) n.1
    (⊎_elim (λ e. omega arith) (λ e. omega arith) c.in-4.is) in
    let b = (says_holds c.collection_ok-in-4.result (c.collection_ok-in-4.ensures n.0 ns n.1 t) c.if-not-collection_ok.false) in
    let s = eqb (depth_word c.args.t.row.now) c.deeper.result in
    says_record c.requires.before c.requires.row_value n.0 (list ns) n.1 s
    (says_iff s (says_equal s refl (c.deeper.ensures ∙ depth_collection c.requires.before.rows n.0 b.0)
    (says_same (depth_word c.args.t.row.now) c.deeper.result))
    (λ a. (b.0, b.1, a)) (λ a. a.2))

pub returns-in-5 : goal.returns-in-5
returns-in-5 c =
    let keys6 = c.in-5.is in let n = known_as trieˢ keys6 in
    let x = kind_beside n.0 trieˢ (list bind) n.1 (⊎_elim (λ e. omega arith) (λ e. omega arith) keys6) in
    let y = kind_beside n.0 trieˢ (list ns) n.1 (⊎_elim (λ e. omega arith) (λ e. omega arith) keys6) in
    says_record c.requires.before c.requires.row_value n.0 trieˢ n.1 c.trie_ok.result (c.trie_ok.ensures n.0 x y)

pub returns-in_default : goal.returns-in_default
returns-in_default c o =
    let rest = c.in_default.in_default-own.rest in
    kind_none o.which o.sort (ap (λ (x : List ℕ). get_or x 0 0) c.requires.row_value ∙ o.known)
    rest.0.0.0.0.0.1 rest.0.0.0.0.1 rest.0.0.0.1 rest.0.0.1 rest.0.1 rest.1
