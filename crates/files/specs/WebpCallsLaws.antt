-- What the WebP calls answer, as their code finds it.
use Rattle.std.specs.Prelude.{◌≡◌}
use Rattle.numbers.specs.Words.{ℕ, Result, ◌∙◌, ap, List}
use Rattle.webp.specs.declared.read.Found.{Found}
use Rattle.webp.specs.declared.read.FindError.{FindError}
use Rattle.webp.specs.declared.write.WrapError.{WrapError}
use Rattle.webp.specs.Webp.{find_of, found_number_of, found_start_of, found_length_of, wrap_of, wrapped_number_of, wrapped_length_of}
use Rattle.files.specs.WebpCalls.{to_found, webp_found_of, to_wrapped, webp_wrapped_of}

pub webp_found_lem : (bytes : List ℕ) {f : Result Found FindError} {n a l : ℕ} → f ≡ find_of bytes → a ≡ found_start_of f → l ≡ found_length_of f → n ≡ found_number_of f
    → record { number = n; start = a; len = l } ≡ webp_found_of bytes
unfolding webp_found_of
webp_found_lem bytes e p q r = (λ i. record { number = r i; start = p i; len = q i }) ∙ ap to_found e

pub webp_wrapped_lem : (frame out : List ℕ) {w : Result ℕ WrapError} {n l : ℕ} {o : List ℕ} → record { answer = w; out = o } ≡ wrap_of frame out → l ≡ wrapped_length_of w → n ≡ wrapped_number_of w
    → record { number = n; written = l; out = o } ≡ webp_wrapped_of frame out
unfolding webp_wrapped_of
webp_wrapped_lem frame out {o} e p q = (λ i. record { number = q i; written = p i; out = o }) ∙ ap to_wrapped e
