-- Where only later records change, trees and the notes that lead to them stay.
use Prim.Native.Nat.{ℕ, ◌+◌, ◌-◌, ◌*◌, ◌≤◌, ◌<◌}
use mathlib.Core.Path.{◌≡◌, sym, ap, ◌∙◌}
use mathlib.Core.List.{List}
use native.Mathlib.Omega.{arith}
use lib.ListN.{length, set, take, drop, length-set}
use lib.Seq.{drop-drop, drop-paste, take-set-le, drop-set-lt, get_or-set_same, get_or-set_other}
use Rattle.source.specs.Text.{Str}
use Rattle.source.specs.Types.{Level}
use Rattle.memory.specs.Layout.{record_at, Which, tree, key_at}
use Rattle.memory.specs.Sound.{Used, At}
use Rattle.memory.specs.Grown.{Stays, put}
use Rattle.memory.proofs.Stays.{record_stays, link_stays, ok_stays}
use Rattle.memory.proofs.Put.{put_stays}
use Rattle.memory.proofs.RecordAt.{word_at}
use Rattle.find_tree.specs.Tree.{AnyTree}
use Rattle.insert_tree.specs.Insert.{SideTaken, Trail, top, turn, Changed, NotePut}
use Rattle.find_tree.proofs.Branches.{any_tree}

-- ---- One record changes

pub drop_more : (m n : ℕ) (ws ws' : List ℕ) → m ≤ n → drop m ws' ≡ drop m ws → drop n ws' ≡ drop n ws
drop_more m n ws ws' h e =
    let f : n ≡ m + (n - m) = omega arith in
    rw f (sym (drop-drop (n - m) m ws') ∙ ap (drop (n - m)) e ∙ drop-drop (n - m) m ws)

pub record_past : (m n : ℕ) (ws ws' : List ℕ) → m ≤ n → drop (m * 12) ws' ≡ drop (m * 12) ws
    → record_at ws' (n + 1) ≡ record_at ws (n + 1)
unfolding record_at
record_past m n ws ws' h e = ap (take 12) (drop_more (m * 12) ((n + 1 - 1) * 12) ws ws' (omega arith) e)

pub put_changes : (ws r : List ℕ) (n : ℕ) → n * 12 + 12 ≤ length ws → length r ≡ 12 → Changed ws (put ws n r) n
unfolding put
put_changes ws r n room twelve = record { stays = put_stays ws r n room twelve; rest = drop-paste ws (n * 12) r 12 (omega arith) (omega arith) }

pub note_put : (ws : List ℕ) (n link side : ℕ) → n * 12 + 12 ≤ length ws
    → NotePut ws (set (set ws (n * 12) link) (n * 12 + 1) side) n link side
note_put ws n link side room =
    let e : (n + 1 - 1) * 12 + 0 ≡ n * 12 = omega arith in
    let f : (n + 1 - 1) * 12 + 1 ≡ n * 12 + 1 = omega arith in
    let one = set ws (n * 12) link in
    record {
      changed = record {
        stays = record {
          same = take-set-le (n * 12) one (n * 12 + 1) side (omega arith)
              ∙ take-set-le (n * 12) ws (n * 12) link (omega arith);
          size = length-set one (n * 12 + 1) side ∙ length-set ws (n * 12) link;
        };
        rest = drop-set-lt (n * 12 + 12) one (n * 12 + 1) side (omega arith)
            ∙ drop-set-lt (n * 12 + 12) ws (n * 12) link (omega arith);
      };
      of_link =
          sym (word_at (set one (n * 12 + 1) side) (n + 1) 0 (omega arith))
          ∙ rw e (get_or-set_other one (n * 12 + 1) (n * 12) side 0 (λ q. omega arith)
          ∙ get_or-set_same ws (n * 12) link 0 (omega arith));
      of_side =
          sym (word_at (set one (n * 12 + 1) side) (n + 1) 1 (omega arith))
          ∙ rw f (get_or-set_same one (n * 12 + 1) side 0 (omega (arith, length-set ws (n * 12) link)));
    }

-- ---- Trees stay

module _ {n : ℕ} {ws ws' : List ℕ} (y : Stays n ws ws') where
  pub key_stays : (txt : List ℕ) (x : ℕ) → 0 < x → x ≤ n → key_at ws' txt x ≡ key_at ws txt x
  unfolding key_at
  key_stays txt x p h = rw (record_stays y x p h)

  pub sound_stays : {txt : List ℕ} {m x used : ℕ} → x ≤ n → x ≤ m → Used ws txt m used → Used ws' txt x used
  sound_stays h k o = record {
    few = omega (arith, o.few);
    short = o.short;
    records_fit = omega (arith, o.records_fit, y.size);
    text_fits = o.text_fits;
    rows = λ l p q. ok_stays y p (omega arith) (o.rows l p (omega arith));
  }

  -- Only the records up to the link count.
  pub tree_stays : {txt : List ℕ} {w : Which} {ℓ : Level} {x : ℕ} → x ≤ n → At ws txt w (tree ℓ) x
      → At ws' txt w (tree ℓ) x
  tree_stays {x = x} h t = record {
    records = x;
    used = t.used;
    sound = sound_stays h (omega (arith, t.link.earlier)) t.sound;
    link = link_stays y {l = x + 1} (omega arith) (omega arith) (record { earlier = omega arith; of_kind = t.link.of_kind });
  }

  pub any_stays : {txt : List ℕ} {x : ℕ} → x ≤ n → AnyTree ws txt x → AnyTree ws' txt x
  any_stays h a = any_tree (tree_stays h a.tree)

  -- ---- Notes stay
  module _ {txt : List ℕ} {key : Str} {root : ℕ} (h : root ≤ n) where
    turn_stays : {l side link : ℕ} → SideTaken ws txt key root l side link → SideTaken ws' txt key root l side link
    turn_stays {l} t =
        let k = key_stays txt l t.some (omega (arith, t.within)) in
        let r = record_stays y l t.some (omega (arith, t.within)) in
        record {
          some = t.some;
          within = t.within;
          left = λ e. rw (k, r) (t.left e);
          right = λ e. rw (k, r) (t.right e);
        }

    pub trail_stays : {d m link : ℕ} (k : ℕ) → k ≤ m → drop (k * 12) ws' ≡ drop (k * 12) ws
        → Trail ws txt key root d m link → Trail ws' txt key root d m link
    trail_stays k g e top = top
    trail_stays {m = m} {link = link} k g e (turn {d = d} t r) =
        let q = record_past k m ws ws' g e in
        turn {d = d} {n = m} {link = link} (rw q (turn_stays t)) (rw q (trail_stays k (omega arith) e r))
