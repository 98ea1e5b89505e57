-- The reader gets there: what it tells of a text is the text's reading, and it refuses a text that has none. Assumes nothing.
use mathlib.Core.Path.{◌≡◌, refl, sym, ap, ◌∙◌}
use mathlib.Core.Bool.{Bool, true, false, cond}
use mathlib.Core.List.{List, [], ◌∷◌, ◌++◌, foldl}
use Prim.Native.Nat.{ℕ, ◌≤◌, ◌^◌}
use native.Mathlib.Omega.{arith}
use lib.Dec.{ltb}
use lib.ListN.{length}
use borrow.Author.Tests.{le-ltb, ltb-false}
use Rattle.vcd.specs.declared.Step.{Step}
use Rattle.vcd.specs.declared.Mark.TheVariants.{Timescale, Scope}
use Rattle.vcd.specs.declared.Line.{Line}
use Rattle.vcd.specs.declared.Line.TheVariants.{Fixed}
use Rattle.vcd.specs.Lines.{text_of}
use Rattle.vcd.specs.Dump.{start_of, header_of, body_from, dump_of, Good}
use Rattle.vcd.specs.Entries.{Entry, entries_from, entries_in}
use Rattle.vcd.specs.Reader.{Reads, OneReading}
use Rattle.vcd.specs.How.{lines_of, turn_of, opening, told_from, whole, entries, refusal, told_by, read_of, unchanged}
use Rattle.vcd.proofs.Print.{GoodLines, lines_back}
use Rattle.vcd.proofs.Starts.{fresh_start, long_start, there_start, under_start, there_all, known_there, stays, three, pins_from, declares_all, all_declared}
use Rattle.vcd.proofs.Heart.{told_all}
use Rattle.vcd.proofs.Bound.{good_append, good_header, good_body, short_dump, still_good}
use Rattle.vcd.proofs.Parse.{Accepts, text_forth}
use Rattle.vcd.proofs.Headers.{Dump, dump_of_lem, dump_lines}

-- ---- what is a dump is read

module _ (more unknown steps : List Step) (good : Good (2 ^ 64) 0 steps) where
  abbrev pins : List ℕ
  pins = start_of (more ++ unknown ++ steps)

  abbrev lines : List Line
  lines = header_of pins (start_of unknown) ++ body_from false 0 pins steps

  good_lines : GoodLines lines
  good_lines =
      good_append (header_of pins (start_of unknown)) (body_from false 0 pins steps) (good_header pins (start_of unknown) (long_start (more ++ unknown ++ steps)) (long_start unknown))
      (good_body steps false 0 pins (2 ^ 64) (omega arith) good)

  told_text : told_by (lines_of (text_of lines)) ≡ entries (entries_from 0 pins unchanged steps)
  told_text =
      ap told_by (lines_back lines good_lines)
      ∙ told_all pins (start_of unknown) steps (2 ^ 64) (long_start (more ++ unknown ++ steps)) (long_start unknown) (fresh_start (more ++ unknown ++ steps)) (under_start more unknown steps) good (there_all more unknown steps (2 ^ 64) 0 good)

pub reads_told : (text : List ℕ) (xs : List Entry) → Reads text xs → read_of text ≡ entries xs
unfolding read_of
reads_told text xs r =
    rw (le-ltb 25207 (length text) r.short, r.dump, r.entries, r.declared) (told_text r.more r.unknown r.steps r.good)

pub one_reading : OneReading
one_reading text xs ys a b = let e = reads_told text xs a in let f = reads_told text ys b in cc

-- ---- what is read is a dump

told_whole : (ls : List Line) (xs : List Entry) → told_by ls ≡ entries xs → Accepts opening ls
unfolding told_by
told_whole ls xs = go (whole (foldl turn_of opening ls))
  where
    go : (t : Bool) → cond t (entries (told_from opening ls)) refusal ≡ entries xs → t ≡ true
    go true e = refl
    go false e = let z : ◌≡◌ {A = ℕ} 0 1 = cc in absurd (omega arith)

module _ (text : List ℕ) (xs : List Entry) (short : length text ≤ 25207) (told : told_by (lines_of text) ≡ entries xs) where
  same_entries : (ys : List Entry) → told_by (lines_of text) ≡ entries ys → xs ≡ ys
  same_entries ys e = cc

  dump_reads : text_of (lines_of text) ≡ text → Dump (λ x. Fixed Timescale ∷ Fixed Scope ∷ x) (lines_of text) → Reads text xs
  dump_reads is d =
      let pins = d.pins in
      let t = d.tail in
      let lines = dump_lines (lines_of text) d in
      record {
        steps = t.steps;
        good = t.good;
        unknown = pins_from 0 t.unknown;
        more = pins_from 0 pins;
        pins = pins;
        declared = all_declared pins t.unknown t.steps d.long t.long d.fresh t.under (known_there t.steps pins (2 ^ 64) 0 d.fresh d.long t.good t.there);
        dump =
            sym is ∙ ap text_of lines
            ∙ ap (λ (u : List ℕ). text_of (header_of pins u ++ body_from false 0 pins t.steps)) (sym (declares_all t.unknown t.long t.fresh));
        entries =
            same_entries (entries_from 0 pins unchanged t.steps)
            (ap told_by lines ∙ told_all pins t.unknown t.steps (2 ^ 64) d.long t.long d.fresh t.under t.good t.there);
        short = short;
      }

  read_lines : Reads text xs
  read_lines =
      let acc = told_whole (lines_of text) xs told in
      let f = text_forth text [] opening acc in
      dump_reads f.1 (dump_of_lem (lines_of text) f.0 acc)

pub told_reads : (text : List ℕ) (xs : List Entry) → read_of text ≡ entries xs → Reads text xs
unfolding read_of
told_reads text xs = go (ltb 25207 (length text)) refl
  where
    go : (t : Bool) → ltb 25207 (length text) ≡ t → cond t refusal (told_by (lines_of text)) ≡ entries xs → Reads text xs
    go true q e = let z : ◌≡◌ {A = ℕ} 0 1 = cc in absurd (omega arith)
    go false q e = read_lines text xs (ltb-false 25207 (length text) q) e

-- ---- a log's dump

pub back_dump : (steps : List Step) → Good (2 ^ 48) 0 steps → length steps ≤ 2047 → Reads (text_of (dump_of steps)) (entries_in steps)
unfolding dump_of
back_dump steps good few = record {
  steps = steps;
  good = still_good steps (2 ^ 48) (2 ^ 64) 0 (omega arith) good;
  unknown = steps;
  more = [];
  pins = start_of steps;
  declared = sym (three [] steps steps ∙ stays steps (start_of steps) (known_there steps (start_of steps) (2 ^ 48) 0 (fresh_start steps) (long_start steps) good (there_start steps (2 ^ 48) 0 good)));
  dump = refl;
  entries = refl;
  short = short_dump steps good few;
}
