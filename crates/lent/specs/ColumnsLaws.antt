-- The laws of column records, in both forms: what was written is read back, the other columns stay, and every context in the memory stays in
-- range.
use Rattle.std.specs.Prelude.{◌+◌, ◌*◌, ◌<◌, ◌≡◌}
use Rattle.numbers.specs.Words.{Ok, ℕ, zero-add, arith, refl, sym, ◌∙◌, ap, ap₂, true, ⊎_elim, lit<, eq_or, List, length, get_or, replicate, get_or-append, length-append, get_or-append-add}
use Rattle.modes.specs.declared.contexts.Context.{Context}
use Rattle.modes.specs.Modes.{empty_context, context_fine_of, Shaped}
use Rattle.column.specs.Column.{digits_of}
use Rattle.column.specs.ColumnLaws.{unpacked_shaped, context_back}
use Rattle.lent.specs.Memory.{ColumnRecord, record_at, records_in, Form, packed, old, form_width, column_width, column_bytes, context_in, column_at, column_set, column_found, Columns}
use Rattle.lent.specs.RecordsLaws.{bytes_are, record_back, record_other, record_set_length, record_zeros, read_good}

-- ---- the bytes of a context say which it is
module _ (c : Context) (z : Shaped c) where
  bytes_length : (form : Form) → length (column_bytes form c) ≡ form_width form
  bytes_length packed = refl
  bytes_length old = length-append c.modes c.flags ∙ ap₂ ◌+◌ z.modes z.flags

  in_bytes : context_fine_of c ≡ true → (form : Form) → context_in form (column_bytes form c) ≡ c
  in_bytes e packed = context_back c z e
  in_bytes e old =
      let a = bytes_are 0 4 (column_bytes old c) c.modes z.modes
      (λ j h. sym (get_or-append c.modes c.flags 0 j (rw z.modes h)) ∙ ap (λ (n : ℕ). get_or (column_bytes old c) n 0) (sym (zero-add j))) in
      let b = bytes_are 4 9 (column_bytes old c) c.flags z.flags
      (λ j h. sym (get_or-append-add c.modes c.flags j 0) ∙ ap (λ (n : ℕ). get_or (column_bytes old c) (n + j) 0) z.modes) in
      λ i. record { modes = a i; flags = b i }

-- ---- THE LAWS for callers
pub form_some : (form : Form) → 0 < form_width form
form_some packed = lit< tt
form_some old = lit< tt

-- memory of n columns has a record for each of them
pub column_room : (form : Form) (mem : List ℕ) {n x : ℕ} → length mem ≡ form_width form * n → x < n → x < records_in (form_width form) mem
column_room packed mem e h = rw e (omega arith)
column_room old mem e h = rw e (omega arith)

pub column_shaped : (form : Form) (mem : List ℕ) (x : ℕ) → Shaped (column_at form mem x)
column_shaped packed mem x = unpacked_shaped (record_at 4 mem x)
column_shaped old mem x = record { modes = refl; flags = refl }

module _ (form : Form) (mem : List ℕ) (x : ℕ) (c : Context) where
  pub column_set_length : length (column_set form mem x c) ≡ length mem
  column_set_length = record_set_length (form_width form) mem x (column_bytes form c)

  -- what was written is read back
  pub column_back : x < records_in (form_width form) mem → Shaped c → context_fine_of c ≡ true → column_at form (column_set form mem x c) x ≡ c
  column_back h z e = ap (context_in form) (record_back (form_width form) mem x (column_bytes form c) (form_some form) h (bytes_length c z form)) ∙ in_bytes c z e form

  -- the other columns stay
  pub column_other : (o : ℕ) → (o ≡ x → ⊥) → column_at form (column_set form mem x c) o ≡ column_at form mem o
  column_other o n = ap (context_in form) (record_other (form_width form) mem x (column_bytes form c) o n)

-- memory of zeros holds empty contexts
zeros_empty : (form : Form) → context_in form (replicate (form_width form) 0) ≡ empty_context
unfolding digits_of
zeros_empty packed = refl
zeros_empty old = refl

pub column_empty : (form : Form) (n x : ℕ) → column_at form (replicate n 0) x ≡ empty_context
column_empty form n x = ap (context_in form) (record_zeros (form_width form) n x) ∙ zeros_empty form

-- every context in the memory is in range: so it stays
pub columns_set : (form : Form) (mem : List ℕ) (x : ℕ) (c : Context) → Columns form mem → x < records_in (form_width form) mem → Shaped c → context_fine_of c ≡ true → Columns form (column_set form mem x c)
columns_set form mem x c f h z e o l =
    let k : o < records_in (form_width form) mem = rw (column_set_length form mem x c) at l in
    ⊎_elim
    (λ (w : o ≡ x). ap (λ (y : ℕ). context_fine_of (column_at form (column_set form mem x c) y)) w ∙ ap context_fine_of (column_back form mem x c h z e) ∙ e)
    (λ w. ap context_fine_of (column_other form mem x c o w) ∙ f o k)
    (eq_or o x)

pub columns_empty : (form : Form) (n : ℕ) → Columns form (replicate n 0)
columns_empty form n x h = ap context_fine_of (column_empty form n x)

-- the call that reads it
pub column_read : (mem : List ℕ) (x : ℕ) → x < records_in column_width mem → column_found mem x ≡ record { answer = Ok tt; context = column_at packed mem x }
column_read mem x h = λ i. let r = read_good column_width mem x h i in record { answer = r.answer; context = context_in packed r.bytes }

-- as a caller finds it
pub column_is : (mem : List ℕ) (x : ℕ) {c : ColumnRecord} → c ≡ column_found mem x → x < records_in column_width mem → c.context ≡ column_at packed mem x
column_is mem x e h = ap (λ (c : ColumnRecord). c.context) (e ∙ column_read mem x h)
