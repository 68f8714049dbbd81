-- Bits of words that are shifted and joined.
use Rattle.std.specs.Prelude.{◌≡◌, ◌+◌, ◌-◌, ◌*◌, ◌/◌, ◌%◌, ◌^◌, ◌≤◌, ◌<◌, ◌==◌, ◌≢◌, ℕ, zero, suc, Bool, true, false, Option, Some, None, List, [], ◌∷◌, ◌++◌, length, take, replicate, slice_set, count_ones, slice_index, if◌then◌else◌}
use Rattle.std.specs.Int.{bit_at}
use Rattle.std.specs.Int.RustNames.{bit_or}
use Rattle.col_buffer.specs.Validity.{AddsWord, valid_at, valid_count}
use Rattle.std.proofs.Common.{ap, sym, ◌∙◌, arith, add-zero, zero-add, add_assoc, refl, inl, inr, get_or, mod-lt, length-take, length-set, length-append, get_or-set_same, get_or-set_other}
use Rattle.std.proofs.lemmas.Bool.{cases_lt}
use Rattle.std.proofs.lemmas.List.{get_or-replicate, get_or-take, get_or_append_left, get_or_push, get_or_read}
use Rattle.std.proofs.lemmas.Nat.{shr-shr, shr_split, pow_pos, ones_cat, ones_le_self, zero_from_ones}
use Rattle.std.proofs.lemmas.Nat.Bits.{bit_at_or, bit_at_cat_low, bit_at_cat_high, bit_at-zero, bit_at_above, bit_at_ones}

-- the bits of a word that is shifted down
shifted_down : (n k j : ℕ) → bit_at (n / 2 ^ k) j ≡ bit_at n (k + j)
shifted_down n k j = ap (λ (z : ℕ). z % 2) (shr-shr n k j)

-- the bits of what is kept of a number
low_bits : (n j : ℕ) → j < 64 → bit_at (n % 2 ^ 64) j ≡ bit_at n j
low_bits n j less =
    sym (bit_at_cat_low (n / 2 ^ 64) 64 (n % 2 ^ 64) j less) ∙ ap (λ (z : ℕ). bit_at z j) (shr_split n 64)

-- a word that is shifted up has no low bits
shifted_up_low : (n k j : ℕ) → k ≤ 64 → j < k → bit_at (n * 2 ^ k % 2 ^ 64) j ≡ 0
shifted_up_low n k j h less =
    low_bits (n * 2 ^ k) j (omega arith)
    ∙ ap (λ (z : ℕ). bit_at z j) (sym (add-zero (n * 2 ^ k)))
    ∙ bit_at_cat_low n k 0 j less ∙ bit_at-zero j

shifted_up_high : (n k j : ℕ) → k ≤ j → j < 64 → bit_at (n * 2 ^ k % 2 ^ 64) j ≡ bit_at n (j - k)
shifted_up_high n k j low less =
    low_bits (n * 2 ^ k) j less
    ∙ ap (λ (z : ℕ). bit_at z j) (sym (add-zero (n * 2 ^ k)))
    ∙ bit_at_cat_high n k 0 j (pow_pos k) low

-- a bit past the word
past_word : (n j : ℕ) → n < 2 ^ 64 → 64 ≤ j → bit_at n j ≡ 0
past_word n j fits past = bit_at_above n 64 j fits past

pub joined_low : (low high skip j : ℕ) → 0 < skip → skip + j < 64 → bit_at (bit_or (low / 2 ^ skip) (high * 2 ^ (64 - skip) % 2 ^ 64)) j ≡ bit_at low (skip + j)
joined_low low high skip j some less =
    let a = shifted_down low skip j in
    let b : bit_at (high * 2 ^ (64 - skip) % 2 ^ 64) j ≡ 0 = shifted_up_low high (64 - skip) j (omega arith) (omega arith) in
    bit_at_or (low / 2 ^ skip) (high * 2 ^ (64 - skip) % 2 ^ 64) j
    ∙ omega (arith, a, b)

pub joined_high : (low high skip j : ℕ) → low < 2 ^ 64 → 0 < skip → skip < 64 → j < 64 → 64 ≤ skip + j → bit_at (bit_or (low / 2 ^ skip) (high * 2 ^ (64 - skip) % 2 ^ 64)) j ≡ bit_at high (skip + j - 64)
joined_high low high skip j fits some less inside past =
    let a : bit_at (low / 2 ^ skip) j ≡ 0 = shifted_down low skip j ∙ past_word low (skip + j) fits past in
    let is : j - (64 - skip) ≡ skip + j - 64 = omega arith in
    let b : bit_at (high * 2 ^ (64 - skip) % 2 ^ 64) j ≡ bit_at high (skip + j - 64) = shifted_up_high high (64 - skip) j (omega arith) inside ∙ ap (bit_at high) is in
    bit_at_or (low / 2 ^ skip) (high * 2 ^ (64 - skip) % 2 ^ 64) j
    ∙ omega (arith, a, b)

-- the lowest bits of a word that is shifted up and down again
pub low_again : (word kept j : ℕ) → 0 < kept → kept < 64 → j < kept → bit_at (word * 2 ^ (64 - kept) % 2 ^ 64) (64 - kept + j) ≡ bit_at word j
low_again word kept j some inside less =
    let is : 64 - kept + j - (64 - kept) ≡ j = omega arith in
    shifted_up_high word (64 - kept) (64 - kept + j) (omega arith) (omega arith) ∙ ap (bit_at word) is

-- the bits that are shifted down
pub high_again : (word kept j : ℕ) → bit_at (word / 2 ^ (64 - kept)) j ≡ bit_at word (64 - kept + j)
high_again word kept j = shifted_down word (64 - kept) j

-- all bits of a word are set
pub one_of_ones : (j : ℕ) → j < 64 → (bit_at (2 ^ 64 - 1) j == 1) ≡ true
one_of_ones j less = ap (λ (n : ℕ). n == 1) (bit_at_ones 64 j less)

pub valid_of_ones : (count j : ℕ) (words : List ℕ) → words ≡ replicate (count / 64 + 1) (2 ^ 64 - 1) → j < count → valid_at (Some words) j ≡ true
valid_of_ones count j words e less =
    let inside : j / 64 < count / 64 + 1 = omega arith in
    ap (λ (ws : List ℕ). valid_at (Some ws) j) e
    ∙ ap (λ (n : ℕ). bit_at n (j % 64) == 1) (get_or-replicate (count / 64 + 1) (j / 64) (2 ^ 64 - 1) 0 inside)
    ∙ one_of_ones (j % 64) (mod-lt j (omega arith))

-- ---- a word behind others

-- at the end of a word
pub adds_word : (old new : List ℕ) (place word at : ℕ) → place ≡ 64 * at → length new ≡ at + 1
    → ((q : ℕ) → q < at → get_or new q 0 ≡ get_or old q 0) → get_or new at 0 ≡ word → AddsWord old new place word
adds_word old new place word at is long same here = record {
  reach = omega arith;
  here = λ j less.
      let q : (place + j) / 64 ≡ at = omega arith in
      let r : (place + j) % 64 ≡ j = omega arith in
      ap (λ (n : ℕ). bit_at (get_or new n 0) ((place + j) % 64) == 1) q
      ∙ ap (λ (n : ℕ). bit_at n ((place + j) % 64) == 1) here
      ∙ ap (λ (n : ℕ). bit_at word n == 1) r;
  others = λ j less.
      let inside : j / 64 < at = omega arith in
      ap (λ (n : ℕ). bit_at n (j % 64) == 1) (same (j / 64) inside);
}

-- within a word
pub adds_across : (old new : List ℕ) (place word at kept mid last : ℕ) → place ≡ 64 * at + kept → 0 < kept → kept < 64 → length new ≡ at + 2
    → ((q : ℕ) → q < at → get_or new q 0 ≡ get_or old q 0) → get_or new at 0 ≡ mid → get_or new (at + 1) 0 ≡ last
    → ((j : ℕ) → j < kept → bit_at mid j ≡ bit_at (get_or old at 0) j)
    → ((j : ℕ) → kept ≤ j → j < 64 → bit_at mid j ≡ bit_at word (j - kept))
    → ((j : ℕ) → bit_at last j ≡ bit_at word (64 - kept + j))
    → AddsWord old new place word
adds_across old new place word at kept mid last is some inside long same middle behind low high rest = record {
  reach = omega arith;
  here = λ j less. elim (cases_lt (kept + j) 64) [
    | inl near ↦
        let q : (place + j) / 64 ≡ at = omega arith in
        let r : (place + j) % 64 ≡ kept + j = omega arith in
        let back : kept + j - kept ≡ j = omega arith in
        ap (λ (n : ℕ). bit_at (get_or new n 0) ((place + j) % 64) == 1) q
        ∙ ap (λ (n : ℕ). bit_at n ((place + j) % 64) == 1) middle
        ∙ ap (λ (n : ℕ). bit_at mid n == 1) r
        ∙ ap (λ (n : ℕ). n == 1) (high (kept + j) (omega arith) near)
        ∙ ap (λ (n : ℕ). bit_at word n == 1) back
    | inr far ↦
        let q : (place + j) / 64 ≡ at + 1 = omega arith in
        let r : (place + j) % 64 ≡ kept + j - 64 = omega arith in
        let back : 64 - kept + (kept + j - 64) ≡ j = omega arith in
        ap (λ (n : ℕ). bit_at (get_or new n 0) ((place + j) % 64) == 1) q
        ∙ ap (λ (n : ℕ). bit_at n ((place + j) % 64) == 1) behind
        ∙ ap (λ (n : ℕ). bit_at last n == 1) r
        ∙ ap (λ (n : ℕ). n == 1) (rest (kept + j - 64))
        ∙ ap (λ (n : ℕ). bit_at word n == 1) back
  ];
  others = λ j less. elim (cases_lt j (64 * at)) [
    | inl before ↦
        let q : j / 64 < at = omega arith in
        ap (λ (n : ℕ). bit_at n (j % 64) == 1) (same (j / 64) q)
    | inr in_it ↦
        let q : j / 64 ≡ at = omega arith in
        let r : j % 64 < kept = omega arith in
        ap (λ (n : ℕ). bit_at (get_or new n 0) (j % 64) == 1) q
        ∙ ap (λ (n : ℕ). bit_at n (j % 64) == 1) middle
        ∙ ap (λ (n : ℕ). n == 1) (low (j % 64) r)
        ∙ ap (λ (n : ℕ). bit_at (get_or old n 0) (j % 64) == 1) (sym q)
  ];
}

pub push-across : (old cut new : List ℕ) (place word at kept mid last x : ℕ) → cut ≡ take (at + 1) old → place ≡ 64 * at + kept → 0 < kept → kept < 64 → place ≤ 64 * length old
    → x ≡ get_or cut at x → new ≡ slice_set cut at mid ++ last ∷ []
    → ((j : ℕ) → j < kept → bit_at mid j ≡ bit_at x j)
    → ((j : ℕ) → kept ≤ j → j < 64 → bit_at mid j ≡ bit_at word (j - kept))
    → ((j : ℕ) → bit_at last j ≡ bit_at word (64 - kept + j))
    → AddsWord old new place word
push-across old cut new place word at kept mid last x c is some inside room read made low high rest =
    let below : at < length old = omega arith in
    let long : length cut ≡ at + 1 = omega (arith, ap length c, length-take (at + 1) old) in
    let set_long : length (slice_set cut at mid) ≡ at + 1 = length-set cut at mid ∙ long in
    let here : at < length cut = omega arith in
    let there : at < length (slice_set cut at mid) = omega arith in
    let old_at : x ≡ get_or old at 0 = get_or_read cut at x here read 0 ∙ ap (λ (l : List ℕ). get_or l at 0) c ∙ get_or-take (at + 1) old at 0 (omega arith) in
    adds_across old new place word at kept mid last is some inside
    (omega (arith, ap length made, length-append (slice_set cut at mid) (last ∷ [])))
    (λ q less.
    let apart : q ≢ at = λ e. absurd (omega arith) in
    let first : q < length (slice_set cut at mid) = omega arith in
    ap (λ (l : List ℕ). get_or l q 0) made ∙ get_or_append_left (slice_set cut at mid) (last ∷ []) 0 q first
    ∙ get_or-set_other cut at q mid 0 apart ∙ ap (λ (l : List ℕ). get_or l q 0) c ∙ get_or-take (at + 1) old q 0 (omega arith))
    (ap (λ (l : List ℕ). get_or l at 0) made ∙ get_or_append_left (slice_set cut at mid) (last ∷ []) 0 at there ∙ get_or-set_same cut at mid 0 here)
    (ap (λ (l : List ℕ). get_or l (at + 1) 0) made ∙ get_or_push (slice_set cut at mid) last 0 (at + 1) set_long)
    (λ j less. low j less ∙ ap (λ (n : ℕ). bit_at n j) old_at)
    high rest

-- a loop's step over words of bits that are written behind others
pub range-step : (old new first : List ℕ) (from : Option (List ℕ)) (place start len at word : ℕ) → AddsWord old new (place + at * 64) word
    → ((j : ℕ) → j < 64 → start + at * 64 + j < start + len → (bit_at word j == 1) ≡ valid_at from (start + at * 64 + j))
    → ((k : ℕ) → k < len → k < 64 * at → valid_at (Some old) (place + k) ≡ valid_at from (start + k))
    → ((j : ℕ) → j < place → valid_at (Some old) j ≡ valid_at (Some first) j)
    → ((k : ℕ) → k < len → k < 64 * (at + 1) → valid_at (Some new) (place + k) ≡ valid_at from (start + k))
    × ((j : ℕ) → j < place → valid_at (Some new) j ≡ valid_at (Some first) j)
range-step old new first from place start len at word a bits done kept = (
  λ k less below. elim (cases_lt k (64 * at)) [
    | inl before ↦
        let inside : place + k < place + at * 64 = omega arith in
        a.others (place + k) inside ∙ done k less before
    | inr behind ↦
        let small : k - 64 * at < 64 = omega arith in
        let p : place + k ≡ place + at * 64 + (k - 64 * at) = omega arith in
        let s : start + at * 64 + (k - 64 * at) ≡ start + k = omega arith in
        ap (valid_at (Some new)) p ∙ a.here (k - 64 * at) small
        ∙ bits (k - 64 * at) small (omega arith)
        ∙ ap (valid_at from) s
  ],
  λ j less. a.others j (omega arith) ∙ kept j less,
)

-- ---- how many bits are set

one_one : count_ones 1 ≡ 1
one_one = least (count_ones 1) refl (ones_le_self 1)
  where
    least : (k : ℕ) → count_ones 1 ≡ k → k ≤ 1 → k ≡ 1
    least zero e h = absurd (omega (arith, zero_from_ones 1 e))
    least (suc zero) e h = refl
    least (suc (suc k)) e h = absurd (omega arith)

module _ (words : Option (List ℕ)) where
  pub valid_count-add : (i m n : ℕ) → valid_count words i (m + n) ≡ valid_count words i m + valid_count words (i + m) n
  valid_count-add i zero n =
      let a : zero + n ≡ n = omega arith in
      let b : i ≡ i + zero = omega arith in
      ap (valid_count words i) a ∙ ap (λ (j : ℕ). valid_count words j n) b ∙ sym (zero-add (valid_count words (i + zero) n))
  valid_count-add i (suc m) n =
      let a : suc m + n ≡ suc (m + n) = omega arith in
      let b : i + 1 + m ≡ i + suc m = omega arith in
      ap (valid_count words i) a
      ∙ ap (λ (k : ℕ). (if valid_at words i then 1 else 0) + k) (valid_count-add (i + 1) m n ∙ ap (λ (j : ℕ). valid_count words (i + 1) m + valid_count words j n) b)
      ∙ sym (add_assoc (if valid_at words i then 1 else 0) (valid_count words (i + 1) m) (valid_count words (i + suc m) n))

  pub valid_count-le : (i n : ℕ) → valid_count words i n ≤ n
  valid_count-le i zero = omega arith
  valid_count-le i (suc n) = small (valid_at words i) (valid_count words (i + 1) n) (valid_count-le (i + 1) n)
    where
      small : (b : Bool) (k : ℕ) → k ≤ n → (if b then 1 else 0) + k ≤ suc n
      small true k h = omega arith
      small false k h = omega arith

  -- the bits of a word
  pub valid_count-ones : (k i word : ℕ) → word < 2 ^ k → ((j : ℕ) → j < k → (bit_at word j == 1) ≡ valid_at words (i + j)) → valid_count words i k ≡ count_ones word
  valid_count-ones zero i word less same =
      let none : word ≡ 0 = omega arith in
      let no : count_ones 0 ≡ 0 = omega (arith, ones_le_self 0) in
      sym (ap count_ones none ∙ no)
  valid_count-ones (suc k) i word less same =
      let parts : word / 2 ^ 1 * 2 ^ 1 + word % 2 ^ 1 ≡ word = shr_split word 1 in
      let half : word / 2 < 2 ^ k = omega (arith, pow-suc k) in
      let rest = valid_count-ones k (i + 1) (word / 2) half (λ j below.
      let is : i + suc j ≡ i + 1 + j = omega arith in
      let at : 1 + j ≡ suc j = omega arith in
      ap (λ (n : ℕ). n == 1) (shifted_down word 1 j ∙ ap (bit_at word) at) ∙ same (suc j) (omega arith) ∙ ap (valid_at words) is) in
      let first : valid_at words i ≡ (word % 2 == 1) = ap (valid_at words) (sym (add-zero i)) ∙ sym (same 0 (omega arith)) ∙ ap (λ (n : ℕ). n % 2 == 1) (whole_word word) in
      ap (λ (b : Bool). (if b then 1 else 0) + valid_count words (i + 1) k) first
      ∙ ap (λ (n : ℕ). (if word % 2 == 1 then 1 else 0) + n) rest
      ∙ one (word % 2) (count_ones (word / 2)) (mod-lt word (omega arith))
      ∙ sym (ones_cat 1 (word / 2) (word % 2) (mod-lt word (omega arith)))
      ∙ ap count_ones parts
    where
      pow-suc : (k : ℕ) → 2 ^ suc k ≡ 2 * 2 ^ k
      pow-suc k = grind arith

      whole_word : (n : ℕ) → n / 2 ^ 0 ≡ n
      whole_word n = omega arith

      one : (r n : ℕ) → r < 2 → (if r == 1 then 1 else 0) + n ≡ n + count_ones r
      one zero n h = let no : count_ones 0 ≡ 0 = omega (arith, ones_le_self 0) in omega (arith, no)
      one (suc zero) n h = let is : count_ones 1 ≡ 1 = one_one in omega (arith, is)
      one (suc (suc r)) n h = absurd (omega arith)

-- a loop's step over words
pub count-more : (words : Option (List ℕ)) (i m k count ones : ℕ) → count ≡ valid_count words i m → valid_count words (i + m) k ≡ ones → count + ones ≡ valid_count words i (m + k)
count-more words i m k count ones e f = let both = valid_count-add words i m k in omega (arith, both, e, f)

-- a loop's step over places
pub count-step : (words : Option (List ℕ)) (offset place count : ℕ) (b : Bool) → offset ≤ place → count ≡ valid_count words offset (place - offset) → b ≡ valid_at words place
    → count + (if b then 1 else 0) ≡ valid_count words offset (place + 1 - offset)
count-step words offset place count b low is valid =
    let more : place + 1 - offset ≡ place - offset + 1 = omega arith in
    let at : offset + (place - offset) ≡ place = omega arith in
    let one : valid_count words (offset + (place - offset)) 1 ≡ (if b then 1 else 0) =
    ap (λ (p : ℕ). (if valid_at words p then 1 else 0) + 0) at ∙ ap (λ (c : Bool). (if c then 1 else 0) + 0) (sym valid) ∙ add-zero (if b then 1 else 0) in
    sym (ap (valid_count words offset) more ∙ valid_count-add words offset (place - offset) 1 ∙ ap (λ (n : ℕ). valid_count words offset (place - offset) + n) one
    ∙ ap (λ (n : ℕ). n + (if b then 1 else 0)) (sym is))

-- without words each place is valid
pub valid_count-none : (i n : ℕ) → valid_count None i n ≡ n
valid_count-none i zero = refl
valid_count-none i (suc n) = let rest = valid_count-none (i + 1) n in omega (arith, rest)

pub ruleset count_laws = (valid_count-le, valid_count-none)

-- the bits of a word that is read from a place on
pub read-word : (words : List ℕ) (place word : ℕ) → place + 64 ≤ 64 * length words
    → ((j : ℕ) → j < 64 → place + j < 64 * length words → bit_at word j ≡ bit_at (slice_index words ((place + j) / 64)) ((place + j) % 64))
    → (j : ℕ) → j < 64 → (bit_at word j == 1) ≡ valid_at (Some words) (place + j)
read-word words place word room bits j less = ap (λ (n : ℕ). n == 1) (bits j less (omega arith))
