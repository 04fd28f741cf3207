-- The laws of reading without a stop: a straight-line function's proof is the chain of its calls, in the order of its grammar.
use Rattle.std.specs.Prelude.{◌≡◌}
use Rattle.numbers.specs.Words.{ℕ, refl, ◌∙◌, Bool, true, false, never, List}
use Rattle.reader.specs.Reading.{Reader, given, missing, valid_of, no_reader_of, Reading, done, ◌>>=◌, run, Within}
use Rattle.reader.specs.ReadingLaws.{Bytes, valid_test, valid_fact, run_done, run_then, run_stops, run_valid}
use Rattle.reader.specs.Reads.{Reads}

pub reads_done : {A : Type 0} (a : A) (s : List ℕ) (r : Reader) → Reads (done a) s r a r
reads_done a s r = record { went = λ e f. run_done a s r; stopped = λ e f. absurd (never e f); stuck = λ e. e }

-- the leaves: a part whose call answered a value, and one whose call did not
pub reads_got : {A : Type 0} {P : A → Type 0} {n : ℕ} {m : Reading A} {s : List ℕ} {r : Reader} {a : A} {q : Reader} → Within P n m → Bytes s
    → (valid_of s r ≡ true → run m s r ≡ given a q) → (valid_of s r ≡ false → ⊥) → Reads m s r a q
reads_got {s} {r} {q} w y f g =
    record {
      went = λ e h. f e;
      stopped = λ e h. absurd (never (valid_test s q (run_valid w y (valid_fact s r e) (f e)).valid) h);
      stuck = λ e. absurd (g e);
    }

pub reads_missing : {A : Type 0} {m : Reading A} {s : List ℕ} {r : Reader} (a : A) → (valid_of s r ≡ true → run m s r ≡ missing) → Reads m s r a no_reader_of
unfolding valid_of
reads_missing a f = record { went = λ e h. absurd (never h refl); stopped = λ e h. f e; stuck = λ e. refl }

-- one part after another
pub reads_then : {A B : Type 0} {m : Reading A} (f : A → Reading B) {s : List ℕ} {r q t : Reader} {a : A} {b : B} → Reads m s r a q → Reads (f a) s q b t → Reads (m >>= f) s r b t
reads_then {m} f {s} {r} {q} {t} {a} {b} x y = go (valid_of s q) refl
  where
    go : (v : Bool) → valid_of s q ≡ v → Reads (m >>= f) s r b t
    go true e =
        record {
          went = λ g h. run_then f s m r (x.went g e) ∙ y.went e h;
          stopped = λ g h. run_then f s m r (x.went g e) ∙ y.stopped e h;
          stuck = λ g. absurd (never e (x.stuck g));
        }
    go false e =
        record {
          went = λ g h. absurd (never h (y.stuck e));
          stopped = λ g h. run_stops f s m r (x.stopped g e);
          stuck = λ g. y.stuck e;
        }
