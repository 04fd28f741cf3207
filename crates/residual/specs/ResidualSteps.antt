-- The residual one part at a time: what a part that the code read makes of the state, and what is then left to read.
use Rattle.std.specs.Prelude.{◌+◌, ◌*◌, ◌≤◌, ◌<◌, ◌≡◌, ◌&&◌}
use Rattle.numbers.specs.Words.{ℕ, Option, Some, None, zero, suc, add-one, arith, refl, sym, ◌∙◌, ap, ap₂, Bool, true, false, inl, inr, eqb, ltb, leb, lt_or, both_left, both_right, both_true, eq-eqb, eqb-true, le-leb, leb-true, List, length, get_or, set, replicate, get_or-eq_default, placed, placed_next, all_below, all_below_lem, ℤ, pos, Err}
use Rattle.header.specs.Header.{probability_count, header_of}
use Rattle.reader.specs.declared.boolean.Reader.{Reader}
use Rattle.reader.specs.Reading.{Given, given, missing, valid_of, run, count}
use Rattle.reader.specs.ReadingLaws.{Valid}
use Rattle.header.specs.HeaderLaws.{header_length}
use Rattle.reader.specs.Counts.{Took}
use Rattle.reader.specs.CountsLaws.{took_done, took_stops, took_then, took_ends}
use Rattle.header.specs.declared.quantizers.Factors.{Factors}
use Rattle.header.specs.Quantizers.{factors_of_of, quantizers_of}
use Rattle.header.specs.QuantizersLaws.{segment_ready, segment_refused}
use Rattle.coefficients.specs.BlockLaws.{Sixteen, Good, decoded, decode_reads_lem}
use Rattle.coefficients.specs.BlockLaws.{table_taken, table_not}
use Rattle.coefficients.specs.Block.{Coefficients, block, header_table, table_of}
use Rattle.coefficients.specs.Block as tokens
use Rattle.reader.specs.declared.boolean.Counted.{Counted}
use Rattle.transform.specs.Transform.{samples_of}
use Rattle.transform.specs.Lanes.{macroblock_lanes}
use Rattle.residual.specs.Parts.{model_of, BlockPart}
use Rattle.residual.specs.Residual.{Residual, Kind, FlagsAt, Model, Flags, initial, coordinates, second_kind_of, kind_of, coded, flagged, spread, second_place, second, sixteen_at, stored, empty_of, advance, blocks_from, dc_stage_of, cleared, residual_of, no_residual_of, to_residual_called, flags_of, residual_arguments, residual_answer, residual_call_of, residual_by_header_of, residual_reads, residual_by_header_reads}
use Rattle.reader.specs.declared.boolean.Unread.TheVariants as U
use Rattle.residual.specs.declared.answers.ResidualRead.{ResidualRead}
use Rattle.residual.specs.declared.blocks.State.{State}

-- ---- the flat list, one store at a time
pub stored_next : (p : List ℤ) (at : ℕ) (f : ℕ → ℤ) (n : ℕ) {l : List ℤ} {v : ℤ} → l ≡ placed p at f n → v ≡ f n → set l (at + n) v ≡ placed p at f (n + 1)
stored_next p at f n e h = ap₂ (λ (x : List ℤ) (y : ℤ). set x (at + n) y) e h ∙ placed_next p at f n

pub spread_none : (l dc : List ℤ) → l ≡ spread l dc 0
unfolding spread
spread_none l dc = refl

pub spread_next : (p dc : List ℤ) (k : ℕ) {l : List ℤ} {v : ℤ} → l ≡ spread p dc k → v ≡ get_or dc k (pos 0) → set l (16 * k) v ≡ spread p dc (k + 1)
unfolding spread
spread_next p dc k e h = rw add-one (ap₂ (λ (x : List ℤ) (y : ℤ). set x (16 * k) y) e h)

-- ---- a block that the checked call read, in the context that the code worked out
pub coded_read : (s : List ℕ) (r : Reader) (table : List ℕ) (k : Kind) (ctx : ℕ) (old : List ℤ) → Valid s r → length table ≡ probability_count → (k.kind < 4) × (k.first ≤ 1) → ctx < 3 → Sixteen old
    → {a : Counted ℕ} {l : List ℤ} → (record { answer = a.answer; out = l } ≡ tokens.block_call_of s r table k.kind ctx k.first k.q0 k.q1 old) × (a.reads ≡ tokens.block_reads s r table k.kind ctx k.first k.q0 k.q1 old)
    → BlockPart table k ctx old s r a l
coded_read s r table k ctx old v n g h o e =
    let z : Good table k.kind ctx k.first old = record { size = n; kinds = g.0; near = h; start = g.1; each = o.each } in
    record { read = record { gave = decoded s r table k.kind ctx k.first k.q0 k.q1 old v z e.0; took = decode_reads_lem s r table k.kind ctx k.first k.q0 k.q1 old v z e.1 } }

pub coded_at : (s : List ℕ) (r : Reader) (table : List ℕ) (k : Kind) (p : FlagsAt) (top left : List ℕ) (old : List ℤ) {ctx : ℕ} → ctx ≡ get_or top p.x 0 + get_or left p.y 0 → {g : Given Coefficients} {n : ℕ} → Took (block table k.kind k.q0 k.q1 ctx k.first old) s r g n → Took (coded table k p top left old) s r g n
coded_at s r table k p top left old h e = rw (← h) e

module _ (table : List ℕ) (f : Factors) (s : List ℕ) (m : Model) (r : Reader) {k : ℕ} where
  -- ---- the second-order block
  pub second_missing : Took (coded table (second_kind_of f) second_place m.top m.left (replicate 16 (pos 0))) s r missing k → Took (second table f m) s r missing k
  unfolding second
  second_missing e = took_stops _ (coded table (second_kind_of f) second_place m.top m.left (replicate 16 (pos 0))) e

  pub second_ended : {c : Coefficients} {q : Reader} → Took (coded table (second_kind_of f) second_place m.top m.left (replicate 16 (pos 0))) s r (given c q) k
      → Took (second table f m) s r (given (flagged (second_kind_of f) second_place c.end (spread m.coefficients (samples_of true c.values) 16) m.empty m) q) k
  unfolding second
  second_ended {c} {q} e = took_ends _ (coded table (second_kind_of f) second_place m.top m.left (replicate 16 (pos 0))) e (took_done _ s q)

  -- ---- block i
  module _ (small : Bool) (i : ℕ) where
    pub advance_missing : Took (coded table (kind_of f small i) (coordinates i) m.top m.left (sixteen_at m.coefficients (16 * i))) s r missing k → Took (advance table f small i m) s r missing k
    unfolding advance
    advance_missing e = took_stops _ (coded table (kind_of f small i) (coordinates i) m.top m.left (sixteen_at m.coefficients (16 * i))) e

    pub advance_ended : {c : Coefficients} {q : Reader} → Took (coded table (kind_of f small i) (coordinates i) m.top m.left (sixteen_at m.coefficients (16 * i))) s r (given c q) k
        → Took (advance table f small i m) s r (given (flagged (kind_of f small i) (coordinates i) c.end (stored m.coefficients (16 * i) c.values) (m.empty && empty_of c) m) q) k
    unfolding advance
    advance_ended {c} {q} e = took_ends _ (coded table (kind_of f small i) (coordinates i) m.top m.left (sixteen_at m.coefficients (16 * i))) e (took_done _ s q)

    -- ---- the blocks from i on
    pub blocks_missing : (more : ℕ) → Took (advance table f small i m) s r missing k → Took (blocks_from table f small (suc more) i m) s r missing k
    unfolding blocks_from
    blocks_missing more e = took_stops _ (advance table f small i m) e

    pub blocks_next : (more : ℕ) {n : Model} {q : Reader} → Took (advance table f small i m) s r (given n q) k → {y : Given Model} {j : ℕ} → Took (blocks_from table f small more (i + 1) n) s q y j → Took (blocks_from table f small (suc more) i m) s r y (k + j)
    unfolding blocks_from
    blocks_next more e u = took_then _ (advance table f small i m) e u

pub blocks_none : (table : List ℕ) (f : Factors) (s : List ℕ) (m : Model) (r : Reader) (small : Bool) (i : ℕ) → Took (blocks_from table f small 0 i m) s r (given m r) 0
unfolding blocks_from
blocks_none table f s m r small i = took_done _ s r

-- ---- the macroblock
module _ (table : List ℕ) (f : Factors) (small : Bool) (s : List ℕ) where
  pub dc_small : small ≡ true → (m : State) (flat : List ℤ) → Took (dc_stage_of table f small (model_of m flat)) s m.reader (given (model_of m flat) m.reader) 0
  dc_small e m flat = rw e (took_done (model_of m flat) s m.reader)

  pub dc_second : (m : Model) (r : Reader) → small ≡ false → {x : Given Model} {n : ℕ} → Took (second table f m) s r x n → Took (dc_stage_of table f small m) s r x n
  dc_second m r e h = rw e h

  module _ (top left : List ℕ) (r : Reader) where
    pub residual_skip : Took (residual_of table f small true top left) s r (given (initial (cleared small top) (cleared small left)) r) 0
    unfolding residual_of
    residual_skip = took_done _ s r

    module _ {k : ℕ} where
      pub residual_missing : Took (dc_stage_of table f small (initial top left)) s r missing k → Took (residual_of table f small false top left) s r missing k
      unfolding residual_of
      residual_missing e = took_stops _ (dc_stage_of table f small (initial top left)) e

      pub residual_next : {m : Model} {q : Reader} → Took (dc_stage_of table f small (initial top left)) s r (given m q) k → {y : Given Model} {j : ℕ} → Took (blocks_from table f small 24 0 m) s q y j → Took (residual_of table f small false top left) s r y (k + j)
      unfolding residual_of
      residual_next e u = took_then _ (dc_stage_of table f small (initial top left)) e u

-- ---- what the public calls check
below_all : (f : ℕ → Bool) (n : ℕ) → ((i : ℕ) → i < n → f i ≡ true) → all_below n f ≡ true
below_all f zero h = refl
below_all f (suc n) h = both_true (h n (omega arith)) (below_all f n (λ i l. h i (omega arith)))

flags_true : (l : List ℕ) → ((i : ℕ) → get_or l i 0 ≤ 1) → flags_of l ≡ true
flags_true l h = below_all (λ i. leb (get_or l i 0) 1) 9 (λ i k. le-leb _ _ (h i))

flags_fact : {l : List ℕ} → length l ≡ 9 → flags_of l ≡ true → Flags l
flags_fact {l} n e = record { long = n; each = go }
  where
    go : (i : ℕ) → get_or l i 0 ≤ 1
    go i = elim (lt_or i 9) [
      | inl k ↦ leb-true _ _ (all_below_lem (λ j. leb (get_or l j 0) 1) 9 e i k)
      | inr k ↦ rw (get_or-eq_default l 0 {n = i} (rw n k)) (omega arith)
    ]

module _ (table top left : List ℕ) (size : ℕ) where
  pub arguments_fact : length top ≡ 9 → length left ≡ 9 → residual_arguments table top left size ≡ true → (length table ≡ probability_count) × ((Flags top × Flags left) × (size ≡ 384))
  arguments_fact t l e =
      let e1 = both_right (eqb (length table) probability_count) _ e in
      let e2 = both_right (flags_of top) _ e1 in
      (eqb-true _ _ (both_left _ _ e), ((flags_fact t (both_left _ _ e1), flags_fact l (both_left _ _ e2)), eqb-true _ _ (both_right (flags_of left) _ e2)))

  pub arguments_good : length table ≡ probability_count → Flags top → Flags left → size ≡ 384 → residual_arguments table top left size ≡ true
  arguments_good n t l k = both_true (eq-eqb _ _ n) (both_true (flags_true top t.each) (both_true (flags_true left l.each) (eq-eqb _ _ k)))

module _ (s : List ℕ) (r : Reader) (table : List ℕ) (f : Factors) (small skip : Bool) (top left : List ℕ) (old : List ℤ) where
  -- what the code returns with the numbers behind it
  pub call_missing : run (residual_of table f small skip top left) s r ≡ missing → {q : Residual} → q ≡ no_residual_of (Err U.Missing) → record { answer = q; out = old } ≡ residual_answer s r table f small skip top left old
  unfolding residual_answer
  call_missing e h = rw h (sym (ap (to_residual_called old) e))

  pub call_handed : {m : Model} {q : Reader} → run (residual_of table f small skip top left) s r ≡ given m q → {to : List ℤ} → to ≡ macroblock_lanes m.coefficients → record { answer = (to_residual_called old (given m q)).answer; out = to } ≡ residual_answer s r table f small skip top left old
  unfolding residual_answer
  call_handed e h = rw h (sym (ap (to_residual_called old) e))

  -- what the call promises of its answer, with the numbers behind it
  abbrev pub Decoded : ResidualRead → List ℤ → Type 0
  Decoded a out = (record { answer = a.residual; out = out } ≡ residual_call_of s r table f small skip top left old) × (a.reads ≡ residual_reads s r table f small skip top left old)

  module _ (e : valid_of s r && residual_arguments table top left (length old) ≡ true) where
    pub decode_passed : residual_answer s r table f small skip top left old ≡ residual_call_of s r table f small skip top left old
    unfolding residual_call_of
    decode_passed = rw (e, residual_call_of)

    pub reads_passed : count (residual_of table f small skip top left) s r ≡ residual_reads s r table f small skip top left old
    unfolding residual_reads
    reads_passed = rw (e, residual_reads)

    pub passed : {a : ResidualRead} {out : List ℤ} → (record { answer = a.residual; out = out } ≡ residual_answer s r table f small skip top left old) × (a.reads ≡ count (residual_of table f small skip top left) s r) → Decoded a out
    passed p = (p.0 ∙ decode_passed, p.1 ∙ reads_passed)

  module _ (e : valid_of s r && residual_arguments table top left (length old) ≡ false) where
    pub decode_refused : {q : Residual} → q ≡ no_residual_of (Err U.Refused) → record { answer = q; out = old } ≡ residual_call_of s r table f small skip top left old
    unfolding residual_call_of
    decode_refused h = rw (h, e, residual_call_of)

    pub refused : {a : ResidualRead} → a ≡ record { residual = no_residual_of (Err U.Refused); reads = 0 } → Decoded a old
    unfolding residual_reads
    refused d = (decode_refused (rw d refl), rw d (rw (e, residual_reads)))

-- ---- with a header
module _ (s : List ℕ) (r : Reader) (h : List ℤ) (segment : ℕ) (small skip : Bool) (top left : List ℕ) (old : List ℤ) where
  abbrev pub HeaderDecoded : ResidualRead → List ℤ → Type 0
  HeaderDecoded a out = (record { answer = a.residual; out = out } ≡ residual_by_header_of s r h segment small skip top left old) × (a.reads ≡ residual_by_header_reads s r h segment small skip top left old)

  header_refused : header_of h && ltb segment 4 ≡ false → {a : ResidualRead} → a ≡ record { residual = no_residual_of (Err U.Refused); reads = 0 } → HeaderDecoded a old
  unfolding residual_by_header_of residual_by_header_reads
  header_refused e k = (rw k (rw (e, residual_by_header_of)), rw k (rw (e, residual_by_header_reads)))

  pub header_passed : header_of h && ltb segment 4 ≡ true → residual_call_of s r (header_table h) (factors_of_of h segment) small skip top left old ≡ residual_by_header_of s r h segment small skip top left old
  unfolding residual_by_header_of
  header_passed e = rw (e, residual_by_header_of)

  header_reads : header_of h && ltb segment 4 ≡ true → residual_reads s r (header_table h) (factors_of_of h segment) small skip top left old ≡ residual_by_header_reads s r h segment small skip top left old
  unfolding residual_by_header_reads
  header_reads e = rw (e, residual_by_header_reads)

  -- what the answer of the quantizers says
  module _ {x : Option Factors} (e : x ≡ quantizers_of h segment) where
    pub header_none : x ≡ None → {a : ResidualRead} → a ≡ record { residual = no_residual_of (Err U.Refused); reads = 0 } → HeaderDecoded a old
    header_none n {a} k = go (header_of h && ltb segment 4) refl
      where
        go : (b : Bool) → header_of h && ltb segment 4 ≡ b → HeaderDecoded a old
        go true w = let g : x ≡ Some (factors_of_of h segment) = e ∙ segment_ready h segment w in absurd (let z : ◌≡◌ {A = ℕ} 0 1 = cc in omega arith)
        go false w = header_refused w k

    -- and that of the table
    pub table_none : {y : Option (List ℕ)} → y ≡ table_of h → y ≡ None → {a : ResidualRead} → a ≡ record { residual = no_residual_of (Err U.Refused); reads = 0 } → HeaderDecoded a old
    table_none j n {a} k = go (header_of h && ltb segment 4) refl
      where
        go : (b : Bool) → header_of h && ltb segment 4 ≡ b → HeaderDecoded a old
        go true w = absurd (table_not h j n (header_length h (both_left _ _ w)))
        go false w = header_refused w k

    pub header_some : {f : Factors} → x ≡ Some f → {y : Option (List ℕ)} → y ≡ table_of h → {b : List ℕ} → y ≡ Some b → {a : ResidualRead} {out : List ℤ} → Decoded s r b f small skip top left old a out → HeaderDecoded a out
    header_some {f} k {y} j {b} q {a} {out} d = go (header_of h && ltb segment 4) refl
      where
        go : (b : Bool) → header_of h && ltb segment 4 ≡ b → HeaderDecoded a out
        go true w =
            let g : x ≡ Some (factors_of_of h segment) = e ∙ segment_ready h segment w in
            let i : f ≡ factors_of_of h segment = cc in
            let o : b ≡ header_table h = (table_taken h j q).1 in
            let n : Decoded s r (header_table h) (factors_of_of h segment) small skip top left old a out = rw (i, o) at d in
            (n.0 ∙ header_passed w, n.1 ∙ header_reads w)
        go false w = let g : x ≡ None = e ∙ sym (segment_refused h segment w) in absurd (let z : ◌≡◌ {A = ℕ} 0 1 = cc in omega arith)
