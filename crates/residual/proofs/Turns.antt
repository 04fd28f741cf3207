-- The parts of a macroblock as the code reads them, and the turns of the loop over its blocks, as laws on plain values.
use Rattle.numbers.specs.Words.{ℕ, zero, suc, ◌+◌, ◌*◌, ◌≤◌, ◌<◌, add-zero, zero-add, arith, ◌≡◌, refl, sym, ◌∙◌, ap, Bool, true, false, ◌&&◌, ltb, leb, bit_of, List, length, get_or, set, replicate, ℤ, pos, negsuc, Each, Some, None, Ok, Err}
use Rattle.reader.specs.declared.boolean.Reader.{Reader}
use Rattle.reader.specs.Reading.{Given, given, missing, Reading, run, Within, ends, count}
use Rattle.reader.specs.ReadingLaws.{Bytes, Valid, ReadTo, run_valid, count_within}
use Rattle.reader.specs.Counts.{Took}
use Rattle.reader.specs.CountsLaws.{took_as}
use Rattle.header.specs.declared.quantizers.Factors.{Factors}
use Rattle.coefficients.specs.BlockLaws.{Sixteen, from_block, block_within}
use Rattle.transform.specs.declared.Transformed.{Transformed}
use Rattle.transform.specs.Transform.{samples_of, transform_of}
use Rattle.transform.specs.TransformLaws.{transform_good}
use Rattle.reader.specs.declared.boolean.Counted.{Counted}
use Rattle.transform.specs.Lanes.{macroblock_lanes}
use Rattle.residual.specs.Residual.{Kind, FlagsAt, Model, Flags, ModelInRange, initial, coordinates, second_kind_of, kind_of, zero_of, coded, spread, second_place, second, sixteen_at, stored, advance, blocks_from, dc_stage_of, cleared, residual_of, no_residual_of, to_residual_called, residual_answer}
use Rattle.residual.specs.ResidualLaws.{kind_in, initial_whole, zeros_sixteen, sixteen_in, sixteen_fit, second_within, advance_within, blocks_few, residual_within}
use Rattle.residual.specs.Parts.{model_of, turn_of, Part, BlockPart, Held}
use Rattle.residual.specs.ResidualSteps.{coded_at, second_missing, second_ended, advance_missing, advance_ended, blocks_none, blocks_missing, blocks_next, residual_skip, residual_missing, residual_next, call_missing, call_handed}
use Rattle.reader.specs.declared.boolean.Unread.TheVariants as U
use Rattle.residual.specs.declared.answers.ResidualRead.{ResidualRead}
use Rattle.residual.specs.declared.blocks.State.{State}
use Rattle.residual.specs.declared.blocks.Turn.{Turn}

-- the state that the code makes after a block
abbrev pub after : State → Reader → Kind → FlagsAt → ℕ → Bool → State
after m q k p end e = record { reader = q; top = set m.top p.x (bit_of (ltb k.first end)); left = set m.left p.y (bit_of (ltb k.first end)); empty = e }

module _ (s table : List ℕ) (f : Factors) (m : State) (flat : List ℤ) where
  -- ---- the second-order block
  module _ {k : Kind} (e : k ≡ second_kind_of f) {ctx : ℕ} (n : ctx ≡ get_or m.top 8 0 + get_or m.left 8 0) {a : Counted ℕ} {l : List ℤ} (g : BlockPart table k ctx (replicate 16 (pos 0)) s m.reader a l) where
    asked : Took (coded table (second_kind_of f) second_place m.top m.left (replicate 16 (pos 0))) s m.reader (from_block l a.answer) a.reads
    asked = rw e at (coded_at s m.reader table k second_place m.top m.left (replicate 16 (pos 0)) n g.read)

    pub second_lost : from_block l a.answer ≡ missing → Part (second table f (model_of m flat)) s m.reader (record { state = None; reads = a.reads }) flat
    second_lost h = second_missing table f s (model_of m flat) m.reader (took_as h refl asked)

    pub second_read : Valid s m.reader → Bytes s → Bytes table → {end : ℕ} {q : Reader} → a.answer ≡ Ok (end, q) → {t : Transformed} → t ≡ transform_of l true → {to : List ℤ} → to ≡ spread flat t.samples 16
        → {n : State} → n ≡ after m q k second_place end m.empty → Part (second table f (model_of m flat)) s m.reader (record { state = Some n; reads = a.reads }) to
    second_read v y b {end} {q} h {t} i {to} j {n} o =
        let z = took_as (ap (from_block l) h) refl asked in
        let w = run_valid (block_within table 1 f.y2dc f.y2ac b 0 (get_or m.top 8 0 + get_or m.left 8 0) (replicate 16 (pos 0)) (omega arith) zeros_sixteen) y v z.gave in
        let d : t.samples ≡ samples_of true l = ap (λ (a : Transformed). a.samples) (i ∙ transform_good true (sixteen_fit w.value.values)) in
        rw (o, e, j, d) (second_ended table f s (model_of m flat) m.reader z)

  -- ---- block i
  module _ (small : Bool) (i : ℕ) {k : Kind} (e : k ≡ kind_of f small i) {p : FlagsAt} (c : p ≡ coordinates i) {old : List ℤ} (u : old ≡ sixteen_at flat (16 * i)) {ctx : ℕ} (n : ctx ≡ get_or m.top p.x 0 + get_or m.left p.y 0) {a : Counted ℕ} {l : List ℤ} (g : BlockPart table k ctx old s m.reader a l) where
    wanted : Took (coded table (kind_of f small i) (coordinates i) m.top m.left (sixteen_at flat (16 * i))) s m.reader (from_block l a.answer) a.reads
    wanted = rw (e, c, u) at (coded_at s m.reader table k p m.top m.left old n g.read)

    pub advance_lost : from_block l a.answer ≡ missing → Part (advance table f small i (model_of m flat)) s m.reader (record { state = None; reads = a.reads }) flat
    advance_lost h = advance_missing table f s (model_of m flat) m.reader small i (took_as h refl wanted)

    pub advance_read : {end : ℕ} {q : Reader} → a.answer ≡ Ok (end, q) → {to : List ℤ} → to ≡ stored flat (16 * i) l → {z : Bool} → z ≡ zero_of (get_or l 0 (pos 0))
        → {n : State} → n ≡ after m q k p end (m.empty && (leb end 1 && z)) → Part (advance table f small i (model_of m flat)) s m.reader (record { state = Some n; reads = a.reads }) to
    advance_read {end} {q} h {to} j {z} t {n} o =
        rw (o, e, c, j, t) (advance_ended table f s (model_of m flat) m.reader small i (took_as (ap (from_block l) h) refl wanted))

-- ---- the loop: whatever is left to read from block i on gives and takes, `whole` gives, and takes with the symbols read so far
abbrev On : (s table : List ℕ) (f : Factors) (small : Bool) (whole : Reading Model) (r₀ : Reader) (more i : ℕ) (m : State) (flat : List ℤ) (reads : ℕ) → Type 0
On s table f small whole r₀ more i m flat reads =
    (y : Given Model) (j : ℕ) → Took (blocks_from table f small more i (model_of m flat)) s m.reader y j → Took whole s r₀ y (reads + j)

pub record Going (s table : List ℕ) (f : Factors) (small : Bool) (whole : Reading Model) (r₀ : Reader) (i : ℕ) (m : State) (flat : List ℤ) (reads : ℕ) : Type 0 where
  pub more : ℕ
  pub sum : i + more ≡ 24
  pub on : On s table f small whole r₀ more i m flat reads
  pub few : reads ≤ 304 * i
  pub held : Held s table m flat

pub going_start : {s table : List ℕ} {m : State} {flat : List ℤ} (f : Factors) (small : Bool) → Held s table m flat → Going s table f small (blocks_from table f small 24 0 (model_of m flat)) m.reader 0 m flat 0
going_start f small h = record { more = 24; sum = omega arith; on = λ y j t. took_as refl (sym (zero-add j)) t; few = omega arith; held = h }

-- what a part that ended, or not, gave
pub turn_lost : (t : Turn) (to : List ℤ) {g : Reading Model} {s : List ℕ} {r : Reader} → t.state ≡ None → Part g s r t to → Took g s r missing t.reads
turn_lost t to h e = took_as (ap (turn_of to) h) refl e

pub turn_got : (t : Turn) (to : List ℤ) {g : Reading Model} {s : List ℕ} {r : Reader} {n : State} → t.state ≡ Some n → Part g s r t to → Took g s r (given (model_of n to) n.reader) t.reads
turn_got t to h e = took_as (ap (turn_of to) h) refl e

-- what it then holds
pub turn_held : {s table : List ℕ} {m n : State} {flat to : List ℤ} → Held s table m flat → ReadTo ModelInRange s m.reader (model_of n to) n.reader → Held s table n to
turn_held h e = record { reader = e.valid; size = h.size; whole = e.value }

module _ {s table : List ℕ} {f : Factors} {small : Bool} {whole : Reading Model} {r₀ : Reader} {i : ℕ} {m : State} {flat : List ℤ} {reads : ℕ} (g : Going s table f small whole r₀ i m flat reads) where
  pub going_end : 24 ≤ i → Took whole s r₀ (given (model_of m flat) m.reader) reads
  going_end l =
      let z : g.more ≡ 0 = omega (arith, g.sum) in
      took_as refl (add-zero reads) (g.on _ 0 (rw z (blocks_none table f s (model_of m flat) m.reader small i)))

  -- a turn is left: what held of all blocks but this one
  turn : i < 24 → (P : Type 0) → ((left : ℕ) → i + 1 + left ≡ 24 → On s table f small whole r₀ (suc left) i m flat reads → P) → P
  turn l P h = go g.more g.sum g.on
    where
      go : (k : ℕ) → i + k ≡ 24 → On s table f small whole r₀ k i m flat reads → P
      go zero p w = absurd (omega arith)
      go (suc k) p w = h k (omega arith) w

  module _ (l : i < 24) (t : Turn) (to : List ℤ) (e : Part (advance table f small i (model_of m flat)) s m.reader t to) where
    -- at most sixteen positions of 19 symbols
    pub turn_few : Bytes table → t.reads ≤ 304
    turn_few b = omega (arith, e.took, count_within s m.reader (advance_within table f b small i g.held.whole))

    pub going_missing : t.state ≡ None → Took whole s r₀ missing (reads + t.reads)
    going_missing h = turn l (Took whole s r₀ missing (reads + t.reads)) (λ k p w. w _ t.reads (blocks_missing table f s (model_of m flat) m.reader small i k (turn_lost t to h e)))

    pub going_next : Bytes s → Bytes table → {n : State} → t.state ≡ Some n → Going s table f small whole r₀ (i + 1) n to (reads + t.reads)
    going_next y b {n} h =
        let z = turn_got t to h e in
        turn l (Going s table f small whole r₀ (i + 1) n to (reads + t.reads)) (λ k p w.
        record {
          more = k;
          sum = p;
          on = λ x j u. took_as refl (omega arith) (w x (t.reads + j) (blocks_next table f s (model_of m flat) m.reader small i k z u));
          few = omega (arith, g.few, turn_few b);
          held = turn_held g.held (run_valid (advance_within table f b small i g.held.whole) y g.held.reader z.gave);
        })

-- ---- the macroblock, from its first state
abbrev pub first : Reader → List ℕ → List ℕ → State
first r top left = record { reader = r; top = top; left = left; empty = true }

module _ (table : List ℕ) (f : Factors) (small : Bool) where
  dc_within : {m : Model} → Bytes table → ModelInRange m → Within ModelInRange 304 (dc_stage_of table f small m)
  dc_within {m} b w = go small
    where
      go : (small : Bool) → Within ModelInRange 304 (dc_stage_of table f small m)
      go true = ends w
      go false = second_within table f b w

  module _ {s : List ℕ} {m : State} {flat : List ℤ} (t : Turn) (to : List ℤ) (h : Held s table m flat) (b : Bytes table) (e : Part (dc_stage_of table f small (model_of m flat)) s m.reader t to) where
    pub dc_held : Bytes s → {n : State} → t.state ≡ Some n → Held s table n to
    dc_held y k = turn_held h (run_valid (dc_within b h.whole) y h.reader (turn_got t to k e).gave)

    pub dc_few : t.reads ≤ 304
    dc_few = omega (arith, e.took, count_within s m.reader (dc_within b h.whole))

  pub rest_few : {s : List ℕ} {m : State} {flat : List ℤ} (t : Turn) (to : List ℤ) → Held s table m flat → Bytes table → Part (blocks_from table f small 24 0 (model_of m flat)) s m.reader t to → t.reads ≤ 7296
  rest_few {s} {m} t to h b e = omega (arith, e.took, blocks_few table f b small 24 0 s m.reader h.whole)

module _ (s table : List ℕ) (f : Factors) (small skip : Bool) (r : Reader) (top left : List ℕ) {flat : List ℤ} (z : flat ≡ replicate 384 (pos 0)) where
  pub first_held : Valid s r → length table ≡ 1056 → Flags top → Flags left → Held s table (first r top left) flat
  first_held v n t l = record { reader = v; size = n; whole = rw z (initial_whole t l) }

  pub read_skipped : skip ≡ true → {n : State} → n ≡ first r (cleared small top) (cleared small left) → Part (residual_of table f small skip top left) s r (record { state = Some n; reads = 0 }) flat
  read_skipped k e = rw (k, e, z) (residual_skip table f small s top left r)

  module _ (k : skip ≡ false) (t : Turn) (to : List ℤ) (e : Part (dc_stage_of table f small (model_of (first r top left) flat)) s r t to) where
    begun : Part (dc_stage_of table f small (initial top left)) s r t to
    begun = rw z at e

    pub read_lost : t.state ≡ None → Part (residual_of table f small skip top left) s r t to
    read_lost h = took_as (ap (turn_of to) (sym h)) refl (rw k (residual_missing table f small s top left r (turn_lost t to h begun)))

    pub read_on : {n : State} → t.state ≡ Some n → (u : Turn) (last : List ℤ) → Part (blocks_from table f small 24 0 (model_of n to)) s n.reader u last → Part (residual_of table f small skip top left) s r (record { state = u.state; reads = t.reads + u.reads }) last
    read_on h u last g = rw k (residual_next table f small s top left r (turn_got t to h begun) g)

-- the numbers of what a run gave
abbrev numbers : List ℤ → Given Model → List ℤ
numbers l (given m r) = m.coefficients
numbers l missing = l

-- what the inner call returns after it
module _ (s : List ℕ) (r : Reader) (table : List ℕ) (f : Factors) (small skip : Bool) (top left : List ℕ) (old : List ℤ) (t : Turn) (to : List ℤ) (e : Part (residual_of table f small skip top left) s r t to) where
  pub call_lost : t.state ≡ None → {q : ResidualRead} → q ≡ record { residual = no_residual_of (Err U.Missing); reads = t.reads } → (record { answer = q.residual; out = old } ≡ residual_answer s r table f small skip top left old) × (q.reads ≡ count (residual_of table f small skip top left) s r)
  call_lost h k = (call_missing s r table f small skip top left old (turn_lost t to h e).gave (rw k refl), rw k e.took)

  pub call_got : {n : State} → t.state ≡ Some n → {out : List ℤ} → out ≡ macroblock_lanes to → (record { answer = (to_residual_called old (given (model_of n to) n.reader)).answer; out = out } ≡ residual_answer s r table f small skip top left old) × (t.reads ≡ count (residual_of table f small skip top left) s r)
  call_got h k = (call_handed s r table f small skip top left old (turn_got t to h e).gave k, e.took)

  -- the numbers that it lays over: of sixteen bits, and zeros where nothing was read
  module _ {n : State} (h : t.state ≡ Some n) where
    pub call_whole : Valid s r → Bytes s → Bytes table → Flags top → Flags left → ModelInRange (model_of n to)
    call_whole v y b i j = (run_valid (residual_within table f b small skip i j) y v (turn_got t to h e).gave).value

    pub call_zeros : skip ≡ true → to ≡ replicate 384 (pos 0)
    call_zeros k =
        let g : run (residual_of table f small true top left) s r ≡ given (model_of n to) n.reader = rw k at (turn_got t to h e).gave in
        ap (numbers to) (sym g ∙ (residual_skip table f small s top left r).gave)

-- the kinds that the code made
pub second_fine : (f : Factors) {k : Kind} → k ≡ second_kind_of f → (k.kind < 4) × (k.first ≤ 1)
second_fine f e = rw e (omega arith, omega arith)

pub kind_fine : (f : Factors) (small : Bool) (i : ℕ) {k : Kind} → k ≡ kind_of f small i → (k.kind < 4) × (k.first ≤ 1)
kind_fine f small i e = rw e (kind_in f small i)

pub sixteen_fine : {old l : List ℤ} (at : ℕ) → old ≡ sixteen_at l at → Each (negsuc 32767) (pos 32767) l → Sixteen old
sixteen_fine at e h = rw e (sixteen_in at h)
