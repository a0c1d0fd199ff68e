-- The line of a found element of bindings: what the branch, its label and its path say of it.
use Prim.Native.Nat.{ℕ}
use mathlib.Core.Path.{◌≡◌, sym, ap, ◌∙◌}
use mathlib.Core.Bool.{Bool, true, false, cond}
use mathlib.Core.List.{List, [], ◌∷◌, reverse}
use mathlib.Core.Option.{Option}
use native.Mathlib.Omega.{arith}
use lib.IntN.{ℤ}
use lib.ListN.{length}
use borrow.Author.Tests.{ne_eqb}
use Rattle.source.specs.Text.{Str}
use Rattle.source.specs.Types.{Value, bind, the_item}
use Rattle.source.specs.Trees.{PathElem}
use Rattle.source.specs.Tries.{dflt}
use Rattle.source.specs.Listing.{PathOf}
use Rattle.source.specs.Table.{Line, string_of_path, first_import_of_path, completion_result_of_lid, completion_result_of_ns_or_mod, mod_annotation}
use Rattle.source.specs.Calls.{keeps_kind, keeps}
use Rattle.source.proofs.Paths.{candidate_is, first_import_one, first_import_more}
use Rattle.source.specs.Forward.{line, kept_line}
use Rattle.memory.specs.Layout.{record_at, Which, names, modules, Item, item_of}
use Rattle.find_tree.specs.Tree.{held}
use Rattle.find_tree.specs.Links.{row_at}
use Rattle.find_list.specs.Entries.{label_at, shown, outer}
use Rattle.listing_ask.specs.Ask.{filter_in, asked, passes, result_of}
use Rattle.listing_output.specs.Path.{BranchAt}
use Rattle.listing_output.specs.declared.run.Path.{Path}
use Rattle.listing_line.specs.OnPath.{OnPath}
use Rattle.listing_line.specs.Lines.{Listed}
use Rattle.listing_output.specs.Parts.{candidate_of}
use Rattle.listing_annotation.specs.Annotations.{outermost}
use Rattle.listing_line.specs.Parts.{PutLine}
use Rattle.listing_ask.specs.declared.Ask.{Ask}
use Rattle.listing_annotation.specs.declared.Labelled.{Labelled}
use Rattle.listing_ask.specs.declared.Ask.TheVariants.{Names, Modules}
use Rattle.listing_output.specs.Run.{job_in, Told}
use Rattle.listing_output.specs.declared.run.Run.{Run}
use Rattle.listing_line.specs.SameRun.{SamePath}
use Rattle.listing_line.proofs.Goes.{goes_none}
use Rattle.listing_line.proofs.Run.{same_run}
use Rattle.listing_annotation.proofs.Noted.{noted, noted_symbol}

-- What a found element of bindings and its path say of its line.
record Element (ws txt : List ℕ) (w : Which) (p : Path) (branch label : ℕ) (path : PathOf)
    (x : PathElem × Value (Item w) bind) : Type 0 where
  pub candidate : string_of_path (reverse (x.0 ∷ path)) ≡ candidate_of ws txt p branch
  pub import : first_import_of_path (reverse (x.0 ∷ path)) ≡ label_at ws txt (outermost p label)
  pub item : the_item x.1 ≡ item_of w txt (record_at ws branch)

element : {ws txt : List ℕ} {p : Path} {path : PathOf} (w : Which) (branch label : ℕ)
    (x : PathElem × Value (Item w) bind) (q : Option Str) → OnPath ws txt p path
    → outer x ≡ shown w ws txt bind q (record { branch = branch; label = label }) → Element ws txt w p branch label path x
unfolding outer shown row_at held the_item
element {ws} {txt} {p} {path} w branch label x q o e = record {
  candidate = candidate_is x.0 path ∙ rw (ap (λ y. y.1.0.completion) e, o.text);
  import = go path o.count o.label_is;
  item = ap (λ y. the_item y.1.1) e;
}
  where
    go : (path : PathOf) → p.n ≡ length path → label_at ws txt p.label ≡ first_import_of_path (reverse path)
        → first_import_of_path (reverse (x.0 ∷ path)) ≡ label_at ws txt (outermost p label)
    go [] n i = rw n (first_import_one x.0 ∙ ap (λ y. y.0) e)
    go (el ∷ path) n i = rw (ne_eqb p.n 0 (λ z. omega arith)) (first_import_more x.0 el path ∙ sym i)

-- The line of an item a, where it passes.
kept_is : {A : Type 0} (result : PathOf × A → Line A) (keep : A → Bool) (y : PathOf × A) (a : A) → y.1 ≡ a
    → kept_line result keep y ≡ cond (keep a) (result y ∷ []) []
unfolding kept_line
kept_is result keep y a e = ap (λ a. cond (keep a) (result y ∷ []) []) e

-- What line answers: nothing for an item that does not pass, else its line.
module _ {ws txt : List ℕ} {f : Labelled} {run : Run} {flat out : List ℕ} {m : ℤ} where
  pub listed_none : (ask : Ask) → passes ask (item_of (asked ask) txt (record_at ws f.link)) ≡ false
      → Listed ws txt (record { ask = ask; matched = m }) f run run flat flat out out
  listed_none ask h = record {
    same = same_run run;
    goes = λ path x q o e k.
        let i = element (asked ask) f.link f.label x q o e in
        rw (kept_is (result_of ask) (passes ask) (line path x) _ i.item, h) (goes_none run.tally flat out);
  }

  pub listed_one : {run' : Run} {flat' out' : List ℕ} (ask : Ask) → BranchAt ws txt (asked ask) bind f.link → Told m
      → SamePath run run' → passes ask (item_of (asked ask) txt (record_at ws f.link)) ≡ true
      → PutLine ws txt (job_in f.link m run) (noted ask ws txt (record { link = f.link; label = outermost run.path f.label }))
      run'.tally flat flat' out out'
      → Listed ws txt (record { ask = ask; matched = m }) f run run' flat flat' out out'
  unfolding completion_result_of_lid completion_result_of_ns_or_mod
  listed_one (Names g) b t s h put = record {
    same = s;
    goes = λ path x q o e k.
        let i = element names f.link f.label x q o e in
        rw (kept_is completion_result_of_lid (keeps_kind g) (line path x) _ i.item, h)
        (put names (completion_result_of_lid (line path x))
        (record { branch_at = b; length_is = k ∙ sym t; item_is = i.item; candidate_is = i.candidate; annotation_is = ap (dflt []) i.import }));
  }
  listed_one (Modules g) b t s h put = record {
    same = s;
    goes = λ path x q o e k.
        let i = element modules f.link f.label x q o e in
        rw (kept_is completion_result_of_ns_or_mod (keeps (filter_in g)) (line path x) _ i.item, h)
        (put modules (completion_result_of_ns_or_mod (line path x))
        (record {
          branch_at = b;
          length_is = k ∙ sym t;
          item_is = i.item;
          candidate_is = i.candidate;
          annotation_is = ap mod_annotation i.item ∙ sym (noted_symbol _);
        }));
  }
