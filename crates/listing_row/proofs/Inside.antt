-- The item of a line is right as its branch is, and its texts lie in the table's text: `ItemInside`, by soundness.
use Prim.Native.Nat.{ℕ, ◌≤◌}
use native.Mathlib.Omega.{arith}
use mathlib.Core.Path.{◌≡◌}
use mathlib.Core.List.{List}
use lib.ListN.{length}
use Rattle.source.specs.Types.{bind}
use Rattle.memory.specs.Layout.{Which, names, modules, record_at, tree, symbol_word, name_start, name_len, path_start, path_len, loaded_word, item_kind_word}
use Rattle.memory.specs.Sound.{SymbolOk, ItemOk}
use Rattle.memory.specs.Read.{symbol_in}
use Rattle.memory.proofs.RecordOk.{record_as, zero_one}
use Rattle.memory.proofs.Seen.{link_ok}
use Rattle.listing_output.specs.Output.{item_words, RowFrom}
use Rattle.listing_row.specs.Rows.{item_in, SymbolInside, ItemInside}

pub symbol_in_inside : {txt r : List ℕ} {used : ℕ} (size : ℕ) → SymbolOk txt used r → used ≤ size
    → SymbolInside size (symbol_in r)
symbol_in_inside {r = r} size o h =
    zero_one (symbol_word r) o.sort (λ z. rw z (omega (arith, o.name.inside), omega (arith, (o.path z).inside)))
    (λ z. rw z (omega (arith, o.name.inside)))

item_in_inside : (w : Which) (txt r : List ℕ) {used : ℕ} → used ≤ length txt → ItemOk txt used w r
    → ItemInside (length txt) (item_in w r)
item_in_inside names txt r h o = tt
item_in_inside modules txt r h o = symbol_in_inside (length txt) o h

-- Words that are a right branch's.
same_ok : (w : Which) (txt r b : List ℕ) (used : ℕ) → item_words r ≡ item_words b → ItemOk txt used w b
    → ItemOk txt used w r
same_ok names txt r b used e o =
    let e6 : item_kind_word r ≡ item_kind_word b = cc in
    rw e6 o
same_ok modules txt r b used e o =
    let e5 : symbol_word r ≡ symbol_word b = cc in
    let e6 : name_start r ≡ name_start b = cc in
    let e7 : name_len r ≡ name_len b = cc in
    let e8 : path_start r ≡ path_start b = cc in
    let e9 : path_len r ≡ path_len b = cc in
    let e10 : loaded_word r ≡ loaded_word b = cc in
    record {
      sort = rw e5 o.sort;
      name = rw (e6, e7) o.name;
      path = λ z. rw (e8, e9) (o.path (rw e5 at z));
      loaded = rw e10 o.loaded;
    }

module _ {ws txt r : List ℕ} (w : Which) (f : RowFrom ws txt w r) where
  -- The item's words are right: of names one of the kinds in word 6, of modules 0 or 1 in words 5 and 10, and texts that keep their rules.
  pub row_ok : ItemOk txt f.at.at.used w r
  row_ok =
      let b = f.at in
      same_ok w txt r (record_at ws f.branch) b.at.used f.item_is
      (record_as (link_ok b.at.sound b.at.link b.some) w (tree bind) (b.at.link.of_kind (λ e. omega (arith, b.some)))).2

  pub row_inside : ItemInside (length txt) (item_in w r)
  row_inside = item_in_inside w txt r f.at.at.sound.text_fits row_ok
