-- The turns of the picture's loop, on plain values.
use Rattle.numbers.specs.Words.{ℕ, zero, suc, ◌+◌, ◌*◌, ◌≤◌, ◌<◌, add_assoc, add-zero, zero-add, arith, ◌≡◌, refl, sym, ◌∙◌, ap, List, length, set, Ok, Err}
use Rattle.reader.specs.declared.boolean.Reader.{Reader}
use Rattle.reader.specs.Reading.{no_reader_of}
use Rattle.reader.specs.ReadingLaws.{Bytes}
use Rattle.modes.specs.declared.contexts.Context.{Context}
use Rattle.macroblock.specs.declared.arguments.Readers.{Readers}
use Rattle.macroblock.specs.Macroblock.{Finish, Finished, Step, finished, no_modes, no_tokens, finish_number_of, no_reads, AtMost}
use Rattle.lent.specs.Memory.{Memory}
use Rattle.choices.specs.Choices.{stopped_of, Decoded}
use Rattle.picture.specs.declared.rows.PictureStop.{PictureStop}
use Rattle.picture.specs.Picture.{Picture, State, column_of, partition_of, planes_in, step_at, next_of, Turned, turned, plus, reads_at, reads_from, Shared, Live}
use Rattle.picture.specs.Halt.{Halted, state_of, halted_at, halt_of}
use Rattle.picture.specs.HaltLaws.{halt_none, halt_finished, halt_no_modes, halt_no_tokens}
use Rattle.picture.specs.TurnLaws.{Ends}
use Rattle.macroblock.specs.declared.arguments.SymbolCounts.{SymbolCounts}
use Rattle.picture.specs.CountsLaws.{reads_none, reads_finished, reads_no_modes, reads_no_tokens, reads_over}
use Rattle.picture.specs.PictureLaws.{live_next}

-- ---- how a picture ends, and all that it reads
pub record Total : Type 0 where
  pub ended : Halted
  pub reads : SymbolCounts

abbrev pub total_of : Picture → State → Total
total_of P S = record { ended = halt_of (P.wide * P.high) P 0 S; reads = reads_from (P.wide * P.high) P 0 S }

-- of a picture of at most 1024 by 1024 macroblocks
pub total_most : {P : Picture} {S : State} → Shared P → Bytes P.first → ((q : ℕ) → q < P.count → Bytes (P.token q)) → Live P S → {n : ℕ} → P.wide * P.high ≤ n → AtMost n (total_of P S).reads
total_most {P} {S} s a b l {n} h =
    let o = reads_over P s a b (P.wide * P.high) 0 S l (omega arith) in
    record { first = omega (arith, o.upto, o.most.first); tokens = omega (arith, o.upto, o.most.tokens) }

-- a picture that stops in the state S, as the code tells it
pub stop_is : (S : State) {q : PictureStop} {d : Decoded} {n : SymbolCounts} {E F : Total} → q ≡ record { answer = d; reads = n; reader = S.reader; readers = S.readers; left = S.left }
    → (record { answer = d; state = S } ≡ E.ended) × (n ≡ E.reads) → E ≡ F → (halted_at q.answer q.reader q.readers q.left S.mem ≡ F.ended) × (q.reads ≡ F.reads)
stop_is S e h g = (
  ap (λ (q : PictureStop). halted_at q.answer q.reader q.readers q.left S.mem) e ∙ h.0 ∙ ap (λ (x : Total). x.ended) g,
  ap (λ (q : PictureStop). q.reads) e ∙ h.1 ∙ ap (λ (x : Total). x.reads) g,
)

-- ---- from macroblock k, with the state S and so much read, the rest of the picture gives E
pub record Going (P : Picture) (E : Total) (k : ℕ) (S : State) (reads : SymbolCounts) : Type 0 where
  pub rest : ℕ
  pub sum : k + rest ≡ P.wide * P.high
  pub same : halt_of rest P k S ≡ E.ended
  pub paid : plus reads (reads_from rest P k S) ≡ E.reads
  pub live : Live P S

pub going_start : (P : Picture) (S : State) → Live P S → Going P (total_of P S) 0 S no_reads
going_start P S l =
    record { rest = P.wide * P.high; sum = omega arith; same = refl; paid = (let r = reads_from (P.wide * P.high) P 0 S in λ i. record { first = zero-add r.first i; tokens = zero-add r.tokens i }); live = l }

-- one macroblock more
pub plus_plus : (a b c : SymbolCounts) → plus (plus a b) c ≡ plus a (plus b c)
plus_plus a b c = λ i. record { first = add_assoc a.first b.first c.first i; tokens = add_assoc a.tokens b.tokens c.tokens i }

module _ {P : Picture} {E : Total} {k : ℕ} {S : State} {reads : SymbolCounts} (s : Shared P) (g : Going P E k S reads) (h : k < P.wide * P.high) {w : SymbolCounts} (v : w ≡ reads_at P k S) where
  -- what it reads is no more than the whole picture does
  pub going_able : {n : ℕ} → AtMost n E.reads → AtMost n (plus reads w)
  going_able {n} a = go g.rest g.sum g.paid (step_at P k S) refl
    where
      least : (r : SymbolCounts) → (reads_at P k S).first ≤ r.first → (reads_at P k S).tokens ≤ r.tokens → plus reads r ≡ E.reads → AtMost n (plus reads w)
      least r l i e =
          let x : reads.first + r.first ≡ E.reads.first = ap (λ (q : SymbolCounts). q.first) e in
          let y : reads.tokens + r.tokens ≡ E.reads.tokens = ap (λ (q : SymbolCounts). q.tokens) e in
          rw v (record { first = omega (arith, a.first); tokens = omega (arith, a.tokens) })

      go : (m : ℕ) → k + m ≡ P.wide * P.high → plus reads (reads_from m P k S) ≡ E.reads → (t : Step) → step_at P k S ≡ t → AtMost n (plus reads w)
      go zero a b t e = absurd (omega arith)
      go (suc m) a b (finished x) e = least (plus (reads_at P k S) (reads_from m P (k + 1) (next_of P k S x))) (omega arith) (omega arith) (ap (plus reads) (sym (reads_finished m P k S x e)) ∙ b)
      go (suc m) a b no_modes e = least (reads_at P k S) (omega arith) (omega arith) (ap (plus reads) (sym (reads_no_modes m P k S e)) ∙ b)
      go (suc m) a b no_tokens e = least (reads_at P k S) (omega arith) (omega arith) (ap (plus reads) (sym (reads_no_tokens m P k S e)) ∙ b)

  module _ {n : SymbolCounts} (j : n ≡ plus reads w) where
    -- a turn that ends the picture
    pub going_refused : (T : Turned) → T ≡ turned P.form S.left k (column_of P k) S.mem (step_at P k S) → (finish_number_of T.answer ≡ 0 → ⊥) → {d : Decoded} → d ≡ stopped_of T.answer k
        → (record { answer = d; state = state_of S.reader S.readers S.left T.mem } ≡ E.ended) × (n ≡ E.reads)
    going_refused T e z {d} q = go g.rest g.sum g.same g.paid (step_at P k S) refl e
      where
        at : (t : Step) → T ≡ turned P.form S.left k (column_of P k) S.mem t → ◌≡◌ {A = Halted} (record { answer = d; state = state_of S.reader S.readers S.left T.mem }) (let y = turned P.form S.left k (column_of P k) S.mem t in record { answer = stopped_of y.answer k; state = state_of S.reader S.readers S.left y.mem })
        at t e = ap (λ (x : Decoded). record { answer = x; state = state_of S.reader S.readers S.left T.mem }) q ∙ ap (λ (y : Turned). record { answer = stopped_of y.answer k; state = state_of S.reader S.readers S.left y.mem }) e

        go : (m : ℕ) → k + m ≡ P.wide * P.high → halt_of m P k S ≡ E.ended → plus reads (reads_from m P k S) ≡ E.reads → (t : Step) → step_at P k S ≡ t → T ≡ turned P.form S.left k (column_of P k) S.mem t
            → (record { answer = d; state = state_of S.reader S.readers S.left T.mem } ≡ E.ended) × (n ≡ E.reads)
        go zero a b c t u e = absurd (omega arith)
        go (suc m) a b c (finished x) u e = absurd (z (ap (λ (y : Turned). finish_number_of y.answer) e))
        go (suc m) a b c no_modes u e = (at no_modes e ∙ sym (halt_no_modes m P k S u) ∙ b, j ∙ ap (plus reads) (v ∙ sym (reads_no_modes m P k S u)) ∙ c)
        go (suc m) a b c no_tokens u e = (at no_tokens e ∙ sym (halt_no_tokens m P k S u) ∙ b, j ∙ ap (plus reads) (v ∙ sym (reads_no_tokens m P k S u)) ∙ c)

    -- a turn that goes on
    pub going_next : (T : Turned) → T ≡ turned P.form S.left k (column_of P k) S.mem (step_at P k S) → {r : Readers} → T.answer ≡ Ok r
        → ((x : Finished) → step_at P k S ≡ finished x → Ends P.first (P.token (partition_of P k)) (planes_in S.mem) x)
        → {p : ℕ} → p ≡ partition_of P k → Going P E (k + 1) (record { reader = r.first; readers = set S.readers p r.token; left = T.left; mem = T.mem }) n
    going_next T e {r} f z {p} q = go g.rest g.sum g.same g.paid (step_at P k S) refl e
      where
        after : Finish → Readers
        after (Ok a) = a
        after (Err w) = record { first = no_reader_of; token = no_reader_of }

        number : (u : Step) → T ≡ turned P.form S.left k (column_of P k) S.mem u → 0 ≡ finish_number_of (turned P.form S.left k (column_of P k) S.mem u).answer
        number u e = sym (ap finish_number_of f) ∙ ap (λ (y : Turned). finish_number_of y.answer) e

        go : (m : ℕ) → k + m ≡ P.wide * P.high → halt_of m P k S ≡ E.ended → plus reads (reads_from m P k S) ≡ E.reads → (u : Step) → step_at P k S ≡ u → T ≡ turned P.form S.left k (column_of P k) S.mem u
            → Going P E (k + 1) (record { reader = r.first; readers = set S.readers p r.token; left = T.left; mem = T.mem }) n
        go zero a b d u t e = absurd (omega arith)
        go (suc m) a b d (finished x) t e =
            let i : r ≡ x.readers = ap after (sym f ∙ ap (λ (y : Turned). y.answer) e) in
            let c : ◌≡◌ {A = State} (record { reader = r.first; readers = set S.readers p r.token; left = T.left; mem = T.mem }) (next_of P k S x) = λ o. record { reader = (i o).first; readers = set S.readers (q o) (i o).token; left = (e o).left; mem = (e o).mem } in
            let y = reads_from m P (k + 1) (next_of P k S x) in
            rw c
            (record {
              rest = m;
              sum = omega arith;
              same = sym (halt_finished m P k S x t) ∙ b;
              paid = ap (λ (q : SymbolCounts). plus q y) j ∙ plus_plus reads w y ∙ ap (λ (q : SymbolCounts). plus reads (plus q y)) v ∙ ap (plus reads) (sym (reads_finished m P k S x t)) ∙ d;
              live = live_next P S k s g.live h x (z x t);
            })
        go (suc m) a b d no_modes t e = absurd (let n = number no_modes e in omega arith)
        go (suc m) a b d no_tokens t e = absurd (let n = number no_tokens e in omega arith)

pub going_end : {P : Picture} {E : Total} {k : ℕ} {S : State} {reads : SymbolCounts} → Going P E k S reads → P.wide * P.high ≤ k → {d : Decoded} → d ≡ Ok (P.wide * P.high)
    → (record { answer = d; state = S } ≡ E.ended) × (reads ≡ E.reads)
going_end {P} {E} {k} {S} {reads} g h {d} q = go g.rest g.sum g.same g.paid
  where
    go : (m : ℕ) → k + m ≡ P.wide * P.high → halt_of m P k S ≡ E.ended → plus reads (reads_from m P k S) ≡ E.reads → (record { answer = d; state = S } ≡ E.ended) × (reads ≡ E.reads)
    go zero a b e =
        let c : P.wide * P.high ≡ k = omega arith in
        let z : reads ≡ plus reads no_reads = λ i. record { first = sym (add-zero reads.first) i; tokens = sym (add-zero reads.tokens) i } in (
          ap (λ (x : Decoded). record { answer = x; state = S }) (q ∙ ap Ok c) ∙ sym (halt_none P k S) ∙ b,
          z ∙ ap (plus reads) (sym (reads_none P k S)) ∙ e,
        )
    go (suc m) a b e = absurd (omega arith)

-- each memory as long as it was
pub record KeptAll (m n : Memory) : Type 0 where
  pub y : length m.y ≡ length n.y
  pub u : length m.u ≡ length n.u
  pub v : length m.v ≡ length n.v
  pub columns : length m.columns ≡ length n.columns
  pub modes : length m.modes ≡ length n.modes
  pub strengths : length m.strengths ≡ length n.strengths

-- from readers and a context that are those of the start
pub live_from : {P : Picture} {r : Reader} {rs ss : List Reader} {a b : Context} {m : Memory} → rs ≡ ss → a ≡ b → Live P (state_of r ss b m) → Live P (state_of r rs a m)
live_from e f l = rw (e, f) l
