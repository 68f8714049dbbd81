-- The lines of slots, chunk by chunk.
use Rattle.std.proofs.Common.{◌≡◌, ◌<◌, ◌+◌, ◌∙◌, ℕ, ℤ, Bool, List, [], ◌∷◌, ◌++◌, drop, length, get_or, Option, Some, None, refl, sym, ap, append_assoc, FitsSigned, arith}
use Rattle.std.specs.Int.{Width}
use Rattle.std.specs.List.{flat_map}
use Rattle.std.specs.Fmt.{signed_decimal}
use Rattle.std.proofs.lemmas.List.{drop_more}
use Rattle.std.proofs.lemmas.List.Concat.{flat_map-append}
use Rattle.col_model.specs.Arithmetic.{Signed, wrapped_value}
use Rattle.col_model.specs.Value.{Value}
use Rattle.col_kernel.specs.WordLaws.{wrapped-held}
use Rattle.col_buffer.specs.Validity.{masked, slot_if, valid_at}
use Rattle.col_chunk.specs.Chunks.{joined}
use Rattle.col_text.specs.Answer.{line_of, slot_line}

-- a word reads as its own number
pub wraps_signed : (w : Width) (x : ℤ) → FitsSigned w x → wrapped_value (Signed w) x ≡ x
wraps_signed w x fits = wrapped-held (Signed w) x fits

pub ruleset readings = (wraps_signed)

-- the lines of words that are all valid
pub plain-lines : {W : Type 0} (reading : W → ℤ) (i : ℕ) (words : List W)
    → flat_map (λ word. line_of (signed_decimal (reading word))) words ≡ flat_map slot_line (masked reading None i words)
plain-lines reading i [] = refl
plain-lines reading i (word ∷ words) =
    ap (λ rest. line_of (signed_decimal (reading word)) ++ rest) (plain-lines reading (i + 1) words)

-- one line more, and what is left
pub marked-step : {W : Type 0} (reading : W → ℤ) (bits : List ℕ) (offset at : ℕ) (values : List W) (value : W) (valid : Bool) (text new all : List ℕ)
    → at < length values → value ≡ get_or values at value → valid ≡ valid_at (Some bits) (offset + at)
    → new ≡ text ++ slot_line (slot_if reading valid value)
    → text ++ flat_map slot_line (masked reading (Some bits) (offset + at) (drop at values)) ≡ all
    → new ++ flat_map slot_line (masked reading (Some bits) (offset + (at + 1)) (drop (at + 1) values)) ≡ all
marked-step reading bits offset at values value valid text new all inside is set made whole =
    let next : offset + (at + 1) ≡ offset + at + 1 = omega arith in
    let rest : List ℕ = flat_map slot_line (masked reading (Some bits) (offset + at + 1) (drop (at + 1) values)) in
    ap (λ n. new ++ flat_map slot_line (masked reading (Some bits) n (drop (at + 1) values))) next
    ∙ ap (λ line. line ++ rest) (made ∙ ap (λ b. text ++ slot_line (slot_if reading b value)) set)
    ∙ append_assoc text (slot_line (slot_if reading (valid_at (Some bits) (offset + at)) value)) rest
    ∙ sym (ap (λ left. text ++ flat_map slot_line (masked reading (Some bits) (offset + at) left)) (drop_more values at value inside ∙ ap (λ x. x ∷ drop (at + 1) values) (sym is)))
    ∙ whole

-- the lines of chunks, one chunk after another
pub chunk-lines : (chunks : List (List (Option Value)))
    → flat_map (λ chunk. flat_map slot_line chunk) chunks ≡ flat_map slot_line (joined (λ chunk. chunk) chunks)
chunk-lines [] = refl
chunk-lines (chunk ∷ chunks) =
    ap (λ rest. flat_map slot_line chunk ++ rest) (chunk-lines chunks)
    ∙ sym (flat_map-append slot_line chunk (joined (λ chunk. chunk) chunks))
