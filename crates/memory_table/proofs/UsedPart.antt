-- A sound table is one by its used words and used text alone, and reads as the same table; what is right in a part is right in the whole.
use Prim.Native.Nat.{ℕ, ◌+◌, ◌*◌, ◌≤◌, ◌<◌}
use mathlib.Core.Path.{◌≡◌, sym, ap, ◌∙◌}
use mathlib.Core.List.{List}
use native.Mathlib.Omega.{arith}
use lib.ListN.{length, take, length-take}
use lib.Seq.{take-take}
use Rattle.memory.specs.Layout.{record_at, Which, names, modules, Reading, Sort, trieˢ, kind, what}
use Rattle.memory.specs.Sound.{LinkOk, Used, At}
use Rattle.memory.proofs.Stays.{record_same, what_same, link_same, ok_same}
use Rattle.memory.proofs.Keeps.{what_text_same, used_text_same}
use Rattle.memory_table.specs.Table.{Sound, used_words, used_text, table_of}
use Rattle.memory_table.specs.declared.Header.{Header}

-- Another memory with the same used records and the same used text.
module _ {ws txt : List ℕ} {n used : ℕ} (o : Used ws txt n used) (ws' txt' : List ℕ)
    (e : take (n * 12) ws' ≡ take (n * 12) ws) (f : take used txt' ≡ take used txt) where
  used_same : n * 12 ≤ length ws' → used ≤ length txt' → Used ws' txt' n used
  used_same fits more =
      let u = used_text_same o txt' f (omega arith) o.short more in
      record {
        few = o.few;
        short = o.short;
        records_fit = fits;
        text_fits = more;
        rows = λ l p h. ok_same n ws ws' e p h (u.rows l p h);
      }

  reads_same : (w : Which) (so : Sort) {x : ℕ} → LinkOk ws (n + 1) x (kind w so)
      → what w ws' txt' x so ≡ what w ws txt x so
  reads_same w so {x} i =
      ap (λ (r : Reading w). r so) (what_same n ws ws' e w txt' x (omega (arith, i.earlier))) ∙ what_text_same o txt' f w so (omega arith) i

-- ---- The used part

module _ {ws txt : List ℕ} {h : Header} (o : Sound ws txt h) where
  words_same : take (h.records * 12) (used_words ws h) ≡ take (h.records * 12) ws
  words_same = take-take (h.records * 12) (h.records * 12) ws (omega arith)

  text_same : take h.text (used_text txt h) ≡ take h.text txt
  text_same = take-take h.text h.text txt (omega arith)

  pub used_part_sound : Sound (used_words ws h) (used_text txt h) h
  used_part_sound = record {
    right = used_same o.right _ _ words_same text_same
        (omega (arith, length-take (h.records * 12) ws, o.right.records_fit))
        (omega (arith, length-take h.text txt, o.right.text_fits));
    names_link = link_same h.records ws _ words_same (omega arith) (omega arith) o.names_link;
    modules_link = link_same h.records ws _ words_same (omega arith) (omega arith) o.modules_link;
  }

  pub used_part_table : table_of (used_words ws h) (used_text txt h) h ≡ table_of ws txt h
  used_part_table =
      rw (
        reads_same o.right (used_words ws h) (used_text txt h) words_same text_same names trieˢ o.names_link,
        reads_same o.right (used_words ws h) (used_text txt h) words_same text_same modules trieˢ o.modules_link,
      )

-- ---- From a part to the whole

module _ (ws txt : List ℕ) (m k : ℕ) {w : Which} {so : Sort} {x : ℕ} (t : At (take m ws) (take k txt) w so x) where
  part_words : take (t.records * 12) ws ≡ take (t.records * 12) (take m ws)
  part_words = sym (take-take (t.records * 12) m ws (omega (arith, length-take m ws, t.sound.records_fit)))

  pub part_text : take t.used txt ≡ take t.used (take k txt)
  part_text = sym (take-take t.used k txt (omega (arith, length-take k txt, t.sound.text_fits)))

  pub part_record_at : 0 < x → record_at ws x ≡ record_at (take m ws) x
  part_record_at p = record_same t.records (take m ws) ws part_words x p (omega (arith, t.link.earlier))

  pub part_at : At ws txt w so x
  part_at = record {
    records = t.records;
    used = t.used;
    sound = used_same t.sound ws txt part_words part_text
        (omega (arith, length-take m ws, t.sound.records_fit))
        (omega (arith, length-take k txt, t.sound.text_fits));
    link = link_same t.records (take m ws) ws part_words (omega arith) (omega arith) t.link;
  }
