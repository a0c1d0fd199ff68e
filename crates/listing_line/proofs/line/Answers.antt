-- `listing_line::line` meets its contract.
use mathlib.Core.Path.{sym, ◌∙◌}
use Rattle.source.specs.Table.{mod_annotation}
use Rattle.listing_line.proofs.TextAt.{job_ok, label_word, outermost_text}
use Rattle.listing_annotation.proofs.Noted.{noted_short}
use Rattle.listing_line.proofs.Listed.{listed_none, listed_one}
use Rattle.listing_line.proofs.line.Goals as goal

pub returns-then-not-kept : goal.returns-then-not-kept
unfolding mod_annotation
returns-then-not-kept c =
    listed_none c.args.want.ask (sym (c.kept.ensures _) ∙ c.if-not-kept.true)

pub annotation-note-requires : goal.annotation-note-requires
unfolding mod_annotation
annotation-note-requires c =
    let j = job_ok c.requires in
    let e = c.outermost.ensures (label_word c.requires) in
    record { link_nonzero = (j.branch.some, j.branch.within); text_at = outermost_text c.requires e }

pub put_line-requires : goal.put_line-requires
unfolding mod_annotation
put_line-requires c =
    record {
      job_ok = job_ok c.requires;
      note_len_bound = rw c.annotation-note.ensures
          (noted_short c.args.want.ask c.args.words.now c.args.text.now _
          (outermost_text c.requires (c.outermost.ensures (label_word c.requires))));
    }

pub returns : goal.returns
unfolding mod_annotation
returns c =
    listed_one c.args.want.ask c.requires.branch_at c.requires.told c.put_line.ensures.same_path
    (sym (c.kept.ensures _) ∙ c.if-not-kept.false)
    (rw (c.annotation-note.ensures, c.outermost.ensures (label_word c.requires)) at c.put_line.ensures.put_line)
