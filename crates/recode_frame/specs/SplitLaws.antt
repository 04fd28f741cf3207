-- The laws of the coded header cut at its partition count, and of a header written again with the count 0: it is read as the same header, but
-- for the count.
use Rattle.std.specs.Prelude.{◌≡◌, ◌++◌}
use Rattle.numbers.specs.Words.{ℕ, refl, sym, ◌∙◌, ap, subst, false, List, [], append-nil}
use Rattle.reader.specs.declared.boolean.Reader.{Reader}
use Rattle.reader.specs.Reading.{Given, given, missing, first_reader, Reading, done, ask, ◌>>=◌, run, CodedSymbol, trace, Follows, stop, take, Answers}
use Rattle.reader.specs.ReadingLaws.{never_both, run_done, run_then, run_stops, trace_follows, run_of, recoded, retraced, answers_part}
use Rattle.reader.specs.Extra.{extra_from}
use Rattle.frame.specs.declared.fields.Segments.{Segments}
use Rattle.frame.specs.declared.fields.QuantIndices.{QuantIndices}
use Rattle.frame.specs.declared.fields.Header.{Header}
use Rattle.frame.specs.Header.{literal, when, segments, filter, quantizers, probs, header}
use Rattle.frame.specs.Entries.{entries, numbers}
use Rattle.recode_frame.specs.RecodeFrame.{BeforeCount, before_count, AfterCount, after_count, reader_after, no_count, header_symbols}
pub use Rattle.recode_frame.specs.First.{header_from, Cut}

-- ---- grammars, one after the other
pub bind_assoc : {A B C : Type 0} (m : Reading A) (f : A → Reading B) (g : B → Reading C) → ((m >>= f) >>= g) ≡ (m >>= (λ a. f a >>= g))
bind_assoc (done a) f g = refl
bind_assoc (ask p k) f g = λ i. ask p (λ b. bind_assoc (k b) f g i)

pub follows_then : {A B : Type 0} {m : Reading A} {xs : List CodedSymbol} {a : A} (f : A → Reading B) {ys : List CodedSymbol} {b : B} → Follows m xs a → Follows (f a) ys b → Follows (m >>= f) (xs ++ ys) b
follows_then f stop h = h
follows_then f (take b g) h = take b (follows_then f g h)

-- ---- the header, cut
-- what stands behind the count, as a header
abbrev pub headed : BeforeCount → ℕ → Reading Header
headed a n = after_count >>= (λ z. done (header_from a n z))

abbrev pub counted : BeforeCount → Reading Header
counted a = literal 2 >>= headed a

-- its parts are one after the other, however they are grouped
module _ (a : BeforeCount) (n : ℕ) where
  abbrev made : AfterCount → Reading Header
  made z = done (header_from a n z)

  abbrev fifth : QuantIndices → ℕ → List ℕ → ℕ → Reading AfterCount
  fifth q r p s = when s 0 (literal 8) >>= (λ c. done (record { quantizers = q; refresh = r; probs = p; skip = s; chance = c }))

  skip_cut : (q : QuantIndices) (r : ℕ) (p : List ℕ) → ((literal 1 >>= fifth q r p) >>= made) ≡ (literal 1 >>= (λ s. when s 0 (literal 8) >>= (λ c. made (record { quantizers = q; refresh = r; probs = p; skip = s; chance = c }))))
  skip_cut q r p = bind_assoc (literal 1) (fifth q r p) made ∙ (λ i. literal 1 >>= (λ s. bind_assoc (when s 0 (literal 8)) (λ c. done (record { quantizers = q; refresh = r; probs = p; skip = s; chance = c })) made i))

  probs_cut : (q : QuantIndices) (r : ℕ) → ((probs >>= (λ p. literal 1 >>= fifth q r p)) >>= made) ≡ (probs >>= (λ p. literal 1 >>= (λ s. when s 0 (literal 8) >>= (λ c. made (record { quantizers = q; refresh = r; probs = p; skip = s; chance = c })))))
  probs_cut q r = bind_assoc probs (λ p. literal 1 >>= fifth q r p) made ∙ (λ i. probs >>= (λ p. skip_cut q r p i))

  refresh_cut : (q : QuantIndices) → ((literal 1 >>= (λ r. probs >>= (λ p. literal 1 >>= fifth q r p))) >>= made)
      ≡ (literal 1 >>= (λ r. probs >>= (λ p. literal 1 >>= (λ s. when s 0 (literal 8) >>= (λ c. made (record { quantizers = q; refresh = r; probs = p; skip = s; chance = c }))))))
  refresh_cut q = bind_assoc (literal 1) (λ r. probs >>= (λ p. literal 1 >>= fifth q r p)) made ∙ (λ i. literal 1 >>= (λ r. probs_cut q r i))

  after_cut : headed a n ≡ (quantizers >>= (λ q. literal 1 >>= (λ r. probs >>= (λ p. literal 1 >>= (λ s. when s 0 (literal 8) >>= (λ c. made (record { quantizers = q; refresh = r; probs = p; skip = s; chance = c })))))))
  unfolding after_count
  after_cut = bind_assoc quantizers (λ q. literal 1 >>= (λ r. probs >>= (λ p. literal 1 >>= fifth q r p))) made ∙ (λ i. quantizers >>= (λ q. refresh_cut q i))

-- all that follows the count, in the header's own words
abbrev rest : BeforeCount → Reading Header
rest a = literal 2 >>= (λ n. quantizers >>= (λ q. literal 1 >>= (λ r. probs >>= (λ p. literal 1 >>= (λ s. when s 0 (literal 8) >>= (λ c. done (header_from a n (record { quantizers = q; refresh = r; probs = p; skip = s; chance = c }))))))))

rest_cut : (a : BeforeCount) → counted a ≡ rest a
rest_cut a = λ i. literal 2 >>= (λ n. after_cut a n i)

filter_cut : (colour clamping : ℕ) (sg : Segments) → ((filter >>= (λ fl. done (record { colour = colour; clamping = clamping; segments = sg; filter = fl }))) >>= counted) ≡ (filter >>= (λ fl. rest (record { colour = colour; clamping = clamping; segments = sg; filter = fl })))
filter_cut colour clamping sg =
    bind_assoc filter (λ fl. done (record { colour = colour; clamping = clamping; segments = sg; filter = fl })) counted ∙ (λ i. filter >>= (λ fl. rest_cut (record { colour = colour; clamping = clamping; segments = sg; filter = fl }) i))

segments_cut : (colour clamping : ℕ) → ((segments >>= (λ sg. filter >>= (λ fl. done (record { colour = colour; clamping = clamping; segments = sg; filter = fl })))) >>= counted)
    ≡ (segments >>= (λ sg. filter >>= (λ fl. rest (record { colour = colour; clamping = clamping; segments = sg; filter = fl }))))
segments_cut colour clamping = bind_assoc segments (λ sg. filter >>= (λ fl. done (record { colour = colour; clamping = clamping; segments = sg; filter = fl }))) counted ∙ (λ i. segments >>= (λ sg. filter_cut colour clamping sg i))

clamping_cut : (colour : ℕ) → ((literal 1 >>= (λ clamping. segments >>= (λ sg. filter >>= (λ fl. done (record { colour = colour; clamping = clamping; segments = sg; filter = fl }))))) >>= counted)
    ≡ (literal 1 >>= (λ clamping. segments >>= (λ sg. filter >>= (λ fl. rest (record { colour = colour; clamping = clamping; segments = sg; filter = fl })))))
clamping_cut colour =
    bind_assoc (literal 1) (λ clamping. segments >>= (λ sg. filter >>= (λ fl. done (record { colour = colour; clamping = clamping; segments = sg; filter = fl })))) counted
    ∙ (λ i. literal 1 >>= (λ clamping. segments_cut colour clamping i))

pub header_cut : header ≡ (before_count >>= counted)
unfolding header before_count
header_cut =
    sym
    (bind_assoc (literal 1) (λ colour. literal 1 >>= (λ clamping. segments >>= (λ sg. filter >>= (λ fl. done (record { colour = colour; clamping = clamping; segments = sg; filter = fl }))))) counted
    ∙ (λ i. literal 1 >>= (λ colour. clamping_cut colour i)))

-- ---- a run of it, taken apart
-- a part that is followed by others gave a value where all did
pub record Parted {A B : Type 0} (m : Reading A) (f : A → Reading B) (s : List ℕ) (r : Reader) (b : B) (q : Reader) : Type 0 where
  pub value : A
  pub next : Reader
  pub gives : run m s r ≡ given value next
  pub then : run (f value) s next ≡ given b q

pub parted : {A B : Type 0} (m : Reading A) (f : A → Reading B) (s : List ℕ) (r : Reader) {b : B} {q : Reader} → run (m >>= f) s r ≡ given b q → Parted m f s r b q
parted {A} {B} m f s r {b} {q} e = go (run m s r) refl
  where
    go : (x : Given A) → run m s r ≡ x → Parted m f s r b q
    go missing g = absurd (never_both e (run_stops f s m r g))
    go (given a t) g = record { value = a; next = t; gives = g; then = sym (run_then f s m r g) ∙ e }

pub cut_apart : (s : List ℕ) (r : Reader) {h : Header} {q : Reader} → run header s r ≡ given h q → Cut s r h q
cut_apart s r {h} {q} e =
    let x = parted before_count counted s r (ap (λ (m : Reading Header). run m s r) (sym header_cut) ∙ e) in
    let y = parted (literal 2) (headed x.value) s x.next x.then in
    let z = parted after_count (λ z. done (header_from x.value y.value z)) s y.next y.then in
    let d : given (header_from x.value y.value z.value) z.next ≡ given h q = sym (run_done (header_from x.value y.value z.value) s z.next) ∙ z.then in
    let k : header_from x.value y.value z.value ≡ h = cc in
    let n : z.next ≡ q = cc in
    record {
      before = x.value;
      count = y.value;
      after = z.value;
      r1 = x.next;
      r2 = y.next;
      is = sym k;
      first = x.gives;
      middle = y.gives;
      last = subst (λ (t : Reader). run after_count s y.next ≡ given z.value t) n z.gives;
    }

-- ---- written again
pub after_is : {A : Type 0} (m : Reading A) (s : List ℕ) (r : Reader) {a : A} {q : Reader} → run m s r ≡ given a q → reader_after m s r ≡ q
unfolding reader_after
after_is m s r e = rw (e, reader_after)

count_follows : Follows (literal 2) no_count 0
unfolding literal extra_from
count_follows = take false (take false stop)

module _ {s : List ℕ} {h : Header} {q : Reader} (c : Cut s (first_reader s) h q) where
  pub symbols_are : header_symbols s ≡ trace before_count s (first_reader s) ++ (no_count ++ trace after_count s c.r2)
  unfolding header_symbols
  symbols_are =
      λ i. trace before_count s (first_reader s) ++ (no_count ++ trace after_count s ((ap (reader_after (literal 2) s) (after_is before_count s (first_reader s) c.first) ∙ after_is (literal 2) s c.r1 c.middle) i))

  -- THE LAW: the header's grammar follows its symbols with the count 0 to the same header with the count 0
  pub recounted : Follows header (header_symbols s) (header_from c.before 0 c.after)
  recounted =
      let a = (trace_follows before_count s (first_reader s) c.first).0 in
      let z = (trace_follows after_count s c.r2 c.last).0 in
      let made : Header = header_from c.before 0 c.after in
      let y : Follows (headed c.before 0) (trace after_count s c.r2 ++ []) made = follows_then (λ z. done (header_from c.before 0 z)) z stop in
      let x : Follows (headed c.before 0) (trace after_count s c.r2) made = subst (λ (l : List CodedSymbol). Follows (headed c.before 0) l made) (append-nil (trace after_count s c.r2)) y in
      let w : Follows (before_count >>= counted) (trace before_count s (first_reader s) ++ (no_count ++ trace after_count s c.r2)) made = follows_then counted a (follows_then (headed c.before) count_follows x) in
      subst (λ (l : List CodedSymbol). Follows header l made) (sym symbols_are) (subst (λ (m : Reading Header). Follows m (trace before_count s (first_reader s) ++ (no_count ++ trace after_count s c.r2)) made) (sym header_cut) w)

  -- so any reader that answers them reads that header
  pub read_again : {s' : List ℕ} {r' q' : Reader} → Answers s' r' (header_symbols s) q' → run header s' r' ≡ given (header_from c.before 0 c.after) q'
  read_again a = run_of recounted a

  -- with these symbols again
  pub symbols_again : (s' : List ℕ) {q' : Reader} → Answers s' (first_reader s') (header_symbols s) q' → header_symbols s' ≡ header_symbols s
  unfolding header_symbols
  symbols_again s' {q'} a =
      let x = answers_part (trace before_count s (first_reader s)) (subst (λ (l : List CodedSymbol). Answers s' (first_reader s') l q') symbols_are a) in
      let y = answers_part no_count x.after in
      let b : reader_after before_count s' (first_reader s') ≡ x.middle = after_is before_count s' (first_reader s') (recoded before_count s (first_reader s) c.first x.before) in
      let n : reader_after (literal 2) s' x.middle ≡ y.middle = after_is (literal 2) s' x.middle (run_of count_follows y.before) in
      (λ i. trace before_count s' (first_reader s') ++ (no_count ++ trace after_count s' ((ap (reader_after (literal 2) s') b ∙ n) i)))
      ∙ (λ i. retraced before_count s (first_reader s) c.first x.before i ++ (no_count ++ retraced after_count s c.r2 c.last y.after i))
      ∙ sym symbols_are

-- the entries do not hold the count
pub entries_same : (a : BeforeCount) (m n : ℕ) (z : AfterCount) → entries (header_from a m z) ≡ entries (header_from a n z)
unfolding entries numbers
entries_same a m n z = refl
