-- `sound::branch_ok` meets its contract.
use Rattle.memory.specs.Sound.{BranchOk}
use Rattle.memory.proofs.Says.{says_holds, says_fails, says_iff}
use Rattle.memory.proofs.RecordAs.{branch_ordered}
use Rattle.sound_field.proofs.Noted.{noted_on}
use Rattle.sound_branch.proofs.branch_ok.Goals as goal

pub returns-then-not-link_ok : goal.returns-then-not-link_ok
returns-then-not-link_ok c w v e o =
    says_fails c.link_ok.result c.link_ok.ensures c.if-not-link_ok.true (rw e o.0.left)

pub returns-then-not-link_ok-2 : goal.returns-then-not-link_ok-2
returns-then-not-link_ok-2 c w v e o =
    says_fails c.link_ok-2.result c.link_ok-2.ensures c.if-not-link_ok-2.true (rw e o.0.right)

pub text_ok-requires : goal.text_ok-requires
text_ok-requires c =
    c.requires.before.text

pub returns-then-not-text_ok : goal.returns-then-not-text_ok
returns-then-not-text_ok c w v e o =
    says_fails c.text_ok.result c.text_ok.ensures c.if-not-text_ok.true o.0.key

pub side_ok-requires : goal.side_ok-requires
side_ok-requires c =
    let pre = c.requires in record {
      subtree = record {
        before = pre.before;
        branches = pre.tree_kind;
        link = (says_holds c.link_ok.result c.link_ok.ensures c.if-not-link_ok.false);
        inside = (says_holds c.text_ok.result c.text_ok.ensures c.if-not-text_ok.false).inside;
      };
      noted = noted_on pre.noted;
    }

pub returns-then-not-side_ok : goal.returns-then-not-side_ok
returns-then-not-side_ok c w v e o =
    says_fails c.side_ok.result (c.side_ok.ensures w v e) c.if-not-side_ok.true o.1.0

pub side_ok-requires-2 : goal.side_ok-requires-2
side_ok-requires-2 c =
    let pre = c.requires in record {
      subtree = record {
        before = pre.before;
        branches = pre.tree_kind;
        link = (says_holds c.link_ok-2.result c.link_ok-2.ensures c.if-not-link_ok-2.false);
        inside = (says_holds c.text_ok.result c.text_ok.ensures c.if-not-text_ok.false).inside;
      };
      noted = noted_on pre.noted;
    }

pub returns : goal.returns
returns c w v e =
    let i = rw e at (says_holds c.link_ok.result c.link_ok.ensures c.if-not-link_ok.false) in
    let j = rw e at (says_holds c.link_ok-2.result c.link_ok-2.ensures c.if-not-link_ok-2.false) in
    says_iff c.side_ok-2.result (c.side_ok-2.ensures w v e)
    (λ a.
    let o : BranchOk _ _ _ _ w _ v =
    record { key = (says_holds c.text_ok.result c.text_ok.ensures c.if-not-text_ok.false); left = i; right = j } in (
      o,
      branch_ordered c.requires.before.rows w o
          (says_holds c.side_ok.result (c.side_ok.ensures w v e) c.if-not-side_ok.false) a,
    ))
    (λ o. o.1.1)
