-- What one macroblock leaves, from the answers of the calls that make it.
use Rattle.std.specs.Prelude.{◌<◌, ◌≡◌, ◌&&◌}
use Rattle.numbers.specs.Words.{Checked, ℕ, arith, refl, sym, ◌∙◌, ap, true, ltb, both_true, List, length, Ok}
use Rattle.reader.specs.ReadingLaws.{Bytes, Valid}
use Rattle.modes.specs.Modes.{kinds_of, each_below_of, context_fine_of, Shaped}
use Rattle.modes.specs.declared.contexts.Context.{Context}
use Rattle.modes.specs.ModesLaws.{modes_test}
use Rattle.filter.specs.Strengths.{strength_fine_of}
use Rattle.lent.specs.declared.columns.ColumnRecord.{ColumnRecord}
use Rattle.lent.specs.Memory.{Written, records_in, column_width, mode_width, strength_width, packed, column_bytes, column_at, column_found, column_set, column_written, kinds_fine_of, mode_record, mode_set, mode_written, strength_record, strength_set, strength_written, Memory, memory_of}
use Rattle.lent.specs.RecordsLaws.{write_good}
use Rattle.lent.specs.ColumnsLaws.{column_read}
use Rattle.lent.specs.MacroblocksLaws.{kinds_fine_lem, strength_fine_lem}
use Rattle.header.specs.declared.frame.Frame.{Frame}
use Rattle.macroblock.specs.declared.arguments.SymbolCounts.{SymbolCounts}
use Rattle.macroblock.specs.Macroblock.{reads_of, decode_reads, step_of, macroblock_call_of, Planes, Finished, Step, finished, no_modes, no_tokens, MacroblockCalled, to_macroblock_called, shown, finish_number_of, Ready, Laid}
use Rattle.macroblock.specs.CountsLaws.{reads_good}
use Rattle.macroblock.specs.DecodeLaws.{decode_good}
use Rattle.macroblock.specs.StepLaws as step
use Rattle.macroblock.specs.StepLaws.{Elsewhere, step_ends, step_outside}
use Rattle.macroblock.specs.StepRecords.{step_strength}
use Rattle.macroblock.specs.declared.ending.Outcome.{Outcome}
use Rattle.macroblock.specs.declared.arguments.Place.{Place}
use Rattle.macroblock.specs.declared.arguments.Readers.{Readers}
use Rattle.macroblock.specs.declared.arguments.Around.{Around}
use Rattle.picture.specs.Picture.{planes_in, Turned, turned_of, turned, Room}

-- ---- the call of a macroblock, its arguments being good
pub call_is : (first tokens : List ℕ) (readers : Readers) (f : Frame) (table : List ℕ) {a : Around} (around : Around) (place : Place) (p : Planes) {x : MacroblockCalled}
    → x ≡ macroblock_call_of first tokens readers f table a place p → a ≡ around
    → Ready first tokens readers f table around → Laid place p
    → x ≡ to_macroblock_called p (step_of first tokens readers f table around place p)
call_is first tokens readers f table around place p e c g l =
    e ∙ ap (λ (a : Around). macroblock_call_of first tokens readers f table a place p) c ∙ decode_good first tokens readers f table around place p g l

-- and what it reads
pub call_reads : (first tokens : List ℕ) (readers : Readers) (f : Frame) (table : List ℕ) {a : Around} (around : Around) (place : Place) (p : Planes) {x : SymbolCounts}
    → x ≡ decode_reads first tokens readers f table a place p → a ≡ around
    → Ready first tokens readers f table around → Laid place p
    → x ≡ reads_of first tokens readers f table around
call_reads first tokens readers f table around place p e c g l =
    e ∙ ap (λ (a : Around). decode_reads first tokens readers f table a place p) c ∙ reads_good first tokens readers f table around place p g l

-- what is read of a column
pub column_is : (mem : List ℕ) (x : ℕ) {c : ColumnRecord} → c ≡ column_found mem x → x < records_in column_width mem → c.context ≡ column_at packed mem x
column_is mem x e h = ap (λ (c : ColumnRecord). c.context) (e ∙ column_read mem x h)

-- ---- a finished macroblock is in range: what can be written, and what the next one asks
pub record Ends (first tokens : List ℕ) (p : Planes) (x : Finished) : Type 0 where
  pub reader : Valid first x.readers.first
  pub token : Valid tokens x.readers.token
  pub kinds : kinds_fine_of (kinds_of x.modes) ≡ true
  pub modes : each_below_of 10 x.modes.modes ≡ true
  pub top : context_fine_of x.top ≡ true
  pub top_sized : Shaped x.top
  pub left : context_fine_of x.left ≡ true
  pub left_sized : Shaped x.left
  pub strength : strength_fine_of x.strength ≡ true
  pub y : length x.planes.y ≡ length p.y
  pub u : length x.planes.u ≡ length p.u
  pub v : length x.planes.v ≡ length p.v

pub ends_from : {first tokens : List ℕ} {readers : Readers} {place : Place} {p : Planes} {x : Finished}
    → step.Ends first tokens readers x → Elsewhere place p x.planes → strength_fine_of x.strength ≡ true → Ends first tokens p x
ends_from {x} z o s =
    record {
      reader = z.first;
      token = z.token;
      kinds = kinds_fine_lem x.modes z.modes;
      modes = modes_test x.modes.modes (λ j. z.modes.luma.each j);
      top = z.top;
      top_sized = z.top_sized;
      left = z.left;
      left_sized = z.left_sized;
      strength = s;
      y = o.y.long;
      u = o.u.long;
      v = o.v.long;
    }

pub ends_of : (first tokens : List ℕ) (readers : Readers) (f : Frame) (table : List ℕ) (around : Around) (place : Place) (p : Planes)
    → Ready first tokens readers f table around → Laid place p → Bytes first → Bytes tokens → Bytes table
    → (x : Finished) → step_of first tokens readers f table around place p ≡ finished x → Ends first tokens p x
ends_of first tokens readers f table around place p g l a b c x e =
    ends_from (step_ends first tokens readers f table around place p g a b c e) (step_outside first tokens readers f table around place p g a b c e l)
    (step_strength first tokens readers f table around place p g.sound e)

-- as the code puts it together
abbrev pub after_of : Readers → Outcome → Planes → (columns modes strengths : List ℕ) → Turned
after_of a w p columns modes strengths = turned_of (Ok a) w.left (memory_of p.y p.u p.v columns modes strengths)

module _ (left : Context) (k column : ℕ) (m : Memory) {w : Outcome} {p : Planes} where
  pub turn_stopped : (s : Step) → record { answer = w; planes = p } ≡ to_macroblock_called (planes_in m) s → (finish_number_of w.answer ≡ 0 → ⊥)
      → ◌≡◌ {A = Turned} (record { answer = w.answer; left = left; mem = record { y = p.y; u = p.u; v = p.v; columns = m.columns; modes = m.modes; strengths = m.strengths } }) (turned packed left k column m s)
  turn_stopped (finished x) e n = absurd (n (ap (λ (c : MacroblockCalled). finish_number_of c.answer.answer) e))
  turn_stopped no_modes e n = λ i. record { answer = (e i).answer.answer; left = left; mem = record { y = (e i).planes.y; u = (e i).planes.u; v = (e i).planes.v; columns = m.columns; modes = m.modes; strengths = m.strengths } }
  turn_stopped no_tokens e n = λ i. record { answer = (e i).answer.answer; left = left; mem = record { y = (e i).planes.y; u = (e i).planes.u; v = (e i).planes.v; columns = m.columns; modes = m.modes; strengths = m.strengths } }

  module _ {a : Readers} {n₁ n₂ n₃ : Checked} {columns modes strengths first tokens : List ℕ} (g : w.answer ≡ Ok a) (r : Room packed column k m.columns m.modes m.strengths)
      (c : record { answer = n₁; mem = columns } ≡ column_written m.columns column w.top)
      (d : record { answer = n₂; mem = modes } ≡ mode_written m.modes k w.kinds w.modes)
      (f : record { answer = n₃; mem = strengths } ≡ strength_written m.strengths k w.strength w.kinds) where
    done : (x : Finished) → Ends first tokens (planes_in m) x → record { answer = w; planes = p } ≡ to_macroblock_called (planes_in m) (finished x) → after_of a w p columns modes strengths ≡ turned packed left k column m (finished x)
    done x z e =
        let ew : w ≡ shown x = ap (λ (q : MacroblockCalled). q.answer) e in
        let ea : Ok a ≡ Ok x.readers = sym g ∙ ap (λ (q : Outcome). q.answer) ew in
        let ec : columns ≡ column_set packed m.columns column x.top =
        ap (λ (q : Written). q.mem) (c ∙ ap (λ (q : Outcome). column_written m.columns column q.top) ew ∙ write_good column_width m.columns column (context_fine_of x.top) (column_bytes packed x.top) r.columns z.top) in
        let ed : modes ≡ mode_set m.modes k (kinds_of x.modes) x.modes.modes =
        ap (λ (q : Written). q.mem) (d ∙ ap (λ (q : Outcome). mode_written m.modes k q.kinds q.modes) ew ∙ write_good mode_width m.modes k (kinds_fine_of (kinds_of x.modes) && each_below_of 10 x.modes.modes) (mode_record (kinds_of x.modes) x.modes.modes) r.modes (both_true z.kinds z.modes)) in
        let ef : strengths ≡ strength_set m.strengths k x.strength (kinds_of x.modes) =
        ap (λ (q : Written). q.mem) (f ∙ ap (λ (q : Outcome). strength_written m.strengths k q.strength q.kinds) ew ∙ write_good strength_width m.strengths k (strength_fine_of x.strength && ltb x.modes.segment 4) (strength_record x.strength (kinds_of x.modes)) r.strengths (strength_fine_lem x.strength x.modes z.strength z.kinds)) in
        λ i. record { answer = ea i; left = (ew i).left; mem = record { y = (e i).planes.y; u = (e i).planes.u; v = (e i).planes.v; columns = ec i; modes = ed i; strengths = ef i } }

    pub turn_done : (s : Step) → record { answer = w; planes = p } ≡ to_macroblock_called (planes_in m) s → ((x : Finished) → s ≡ finished x → Ends first tokens (planes_in m) x) → after_of a w p columns modes strengths ≡ turned packed left k column m s
    turn_done (finished x) e z = done x (z x refl) e
    turn_done no_modes e z = absurd (not_done (ap (λ (q : MacroblockCalled). finish_number_of q.answer.answer) e))
      where
        not_done : finish_number_of w.answer ≡ 6 → ⊥
        not_done h = let l : finish_number_of w.answer ≡ 0 = ap finish_number_of g in omega arith
    turn_done no_tokens e z = absurd (not_done (ap (λ (q : MacroblockCalled). finish_number_of q.answer.answer) e))
      where
        not_done : finish_number_of w.answer ≡ 7 → ⊥
        not_done h = let l : finish_number_of w.answer ≡ 0 = ap finish_number_of g in omega arith
