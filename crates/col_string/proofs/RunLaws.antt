-- Laws of slots that are runs of one buffer.
use Rattle.std.specs.Prelude.{◌≡◌, ◌≢◌, ◌+◌, ◌-◌, ◌≤◌, ◌<◌, ◌&&◌, ℕ, zero, suc, Bool, true, false, List, [], ◌∷◌, ◌++◌, length, take, drop, get_or, map, replicate, Option, Some, None, if◌then◌else◌, is_some, is_none, count_by}
use Rattle.std.proofs.Common.{refl, subst, ap, sym, ◌∙◌, arith, add-zero, inl, inr}
use Rattle.std.proofs.lemmas.List.{take-append-le, drop-append-le, length-append, length-drop, get_or_append_left, get_or_push}
use Rattle.std.proofs.lemmas.Bool.{cases_lt}
use Rattle.std.specs.List.{list_all}
use Rattle.std.specs.Option.{option_map}
use Rattle.std.proofs.lemmas.List.Sums.{sum_by-cons}
use Rattle.col_model.specs.Value.{Value}
use Rattle.col_model.specs.ChunkCalls.{null_count}
use Rattle.col_buffer.specs.Validity.{AddsValid, valid_at, valid_count}
use Rattle.col_buffer.proofs.SlotLaws.{no_bits, Reaches-le}
use Rattle.col_string.specs.Runs.{Ends, Fills, Fit, Writes, items_or, listed, passes, run_at, run_slot, run_slots, start_of}

module _ {T : Type 0} where
  pub length-listed : (f : ℕ → T) (i n : ℕ) → length (listed f i n) ≡ n
  length-listed f i zero = refl
  length-listed f i (suc n) = ap suc (length-listed f (i + 1) n)

  pub listed-part : (f : ℕ → T) (i n k m : ℕ) → k + m ≤ n → take m (drop k (listed f i n)) ≡ listed f (i + k) m
  listed-part f i n zero zero h = refl
  listed-part f i zero zero (suc m) h = absurd (omega arith)
  listed-part f i (suc n) zero (suc m) h =
      let at : i + 1 + 0 ≡ i + 0 + 1 = omega arith in
      ap (λ (xs : List T). f i ∷ xs) (listed-part f (i + 1) n 0 m (omega arith))
      ∙ ap (λ (j : ℕ). f i ∷ listed f j m) at
      ∙ ap (λ (j : ℕ). f j ∷ listed f (i + 0 + 1) m) (sym (add-zero i))
  listed-part f i zero (suc k) m h = absurd (omega arith)
  listed-part f i (suc n) (suc k) m h =
      let at : i + 1 + k ≡ i + suc k = omega arith in
      listed-part f (i + 1) n k m (omega arith) ∙ ap (λ (j : ℕ). listed f j m) at

  pub get_or-listed : (f : ℕ → T) (i n k : ℕ) (d : T) → k < n → get_or (listed f i n) k d ≡ f (i + k)
  get_or-listed f i zero k d h = absurd (omega arith)
  get_or-listed f i (suc n) zero d h = ap f (sym (add-zero i))
  get_or-listed f i (suc n) (suc k) d h =
      let at : i + 1 + k ≡ i + suc k = omega arith in
      get_or-listed f (i + 1) n k d (omega arith) ∙ ap f at

  -- one more
  pub listed-end : (f : ℕ → T) (i n : ℕ) → listed f i (n + 1) ≡ listed f i n ++ f (i + n) ∷ []
  listed-end f i zero = ap (λ (j : ℕ). f j ∷ []) (sym (add-zero i))
  listed-end f i (suc n) =
      let at : i + 1 + n ≡ i + suc n = omega arith in
      let more : suc n + 1 ≡ suc (n + 1) = omega arith in
      ap (listed f i) more
      ∙ ap (λ (xs : List T). f i ∷ xs) (listed-end f (i + 1) n ∙ ap (λ (j : ℕ). listed f (i + 1) n ++ f j ∷ []) at)

  -- functions that agree
  pub listed-same : (f g : ℕ → T) (i n : ℕ) → ((j : ℕ) → i ≤ j → j < i + n → f j ≡ g j) → listed f i n ≡ listed g i n
  listed-same f g i zero h = refl
  listed-same f g i (suc n) h =
      ap (λ (x : T). x ∷ listed f (i + 1) n) (h i (omega arith) (omega arith))
      ∙ ap (λ (xs : List T). g i ∷ xs) (listed-same f g (i + 1) n (λ j low high. h j (omega arith) (omega arith)))

  pub listed-constant : (f : ℕ → T) (x : T) (i n : ℕ) → ((j : ℕ) → i ≤ j → j < i + n → f j ≡ x) → listed f i n ≡ replicate n x
  listed-constant f x i zero h = refl
  listed-constant f x i (suc n) h =
      ap (λ (y : T). y ∷ listed f (i + 1) n) (h i (omega arith) (omega arith))
      ∙ ap (λ (xs : List T). x ∷ xs) (listed-constant f x (i + 1) n (λ j low high. h j (omega arith) (omega arith)))

-- how many slots there are
pub length-run_slots : {X : Type 0} (reading : List X → Value) (words : Option (List ℕ)) (items : List X) (ends : List ℕ) (offset len : ℕ) → length (run_slots reading words items ends offset len) ≡ len
length-run_slots reading words items ends offset len = length-listed (run_slot reading words items ends) offset len

-- where a run begins does not depend on what is behind it
start_of-push : (ends : List ℕ) (e place : ℕ) → place ≤ length ends → start_of (ends ++ e ∷ []) place ≡ start_of ends place
start_of-push ends e zero h = refl
start_of-push ends e (suc place) h = get_or_append_left ends (e ∷ []) 0 place (omega arith)

pub start_of-back : (ends : List ℕ) (place : ℕ) → place ≢ 0 → start_of ends place ≡ get_or ends (place - 1) 0
start_of-back ends zero h = absurd (h refl)
start_of-back ends (suc place) h = let is : suc place - 1 ≡ place = omega arith in sym (ap (λ (k : ℕ). get_or ends k 0) is)

-- a run stays where more is written behind
run_at-push : {X : Type 0} (items more : List X) (ends : List ℕ) (e place : ℕ) → Ends ends (length items) → place < length ends
    → run_at (items ++ more) (ends ++ e ∷ []) place ≡ run_at items ends place
run_at-push {X} items more ends e place h less =
    let b = h place less in
    let start : ℕ = start_of ends place in
    let stop : ℕ = get_or ends place 0 in
    ap (λ (k : ℕ). take (get_or (ends ++ e ∷ []) place 0 - k) (drop k (items ++ more))) (start_of-push ends e place (omega arith))
    ∙ ap (λ (k : ℕ). take (k - start) (drop start (items ++ more))) (get_or_append_left ends (e ∷ []) 0 place less)
    ∙ ap (take (stop - start)) (drop-append-le start items more (omega arith))
    ∙ take-append-le (stop - start) (drop start items) more (omega (arith, length-drop start items))

-- the run that is written last
run_at-last : {X : Type 0} (items more : List X) (ends : List ℕ) (e : ℕ) → start_of ends (length ends) ≡ length items → e ≡ length items + length more
    → run_at (items ++ more) (ends ++ e ∷ []) (length ends) ≡ more
run_at-last {X} items more ends e full is =
    let count : e - length items ≡ length more = omega arith in
    ap (λ (k : ℕ). take (get_or (ends ++ e ∷ []) (length ends) 0 - k) (drop k (items ++ more))) (start_of-push ends e (length ends) (omega arith) ∙ full)
    ∙ ap (λ (k : ℕ). take (k - length items) (drop (length items) (items ++ more))) (get_or_push ends e 0 (length ends) refl)
    ∙ ap (λ (k : ℕ). take k (drop (length items) (items ++ more))) count
    ∙ behind items more
  where
    behind : {X : Type 0} (items more : List X) → take (length more) (drop (length items) (items ++ more)) ≡ more
    behind [] more = whole more
      where
        whole : {X : Type 0} (xs : List X) → take (length xs) xs ≡ xs
        whole [] = refl
        whole (x ∷ xs) = ap (λ (ys : List _). x ∷ ys) (whole xs)
    behind (x ∷ items) more = behind items more

-- the ends with one more
pub Writes-push : {X : Type 0} (items more : List X) (ends : List ℕ) (e : ℕ) → Writes ends (Some items) → e ≡ length items + length more → Writes (ends ++ e ∷ []) (Some (items ++ more))
Writes-push {X} items more ends e w is = record {
  inside = λ place less. elim (cases_lt place (length ends)) [
    | inl before ↦
        let b = w.inside place before in
        let s = start_of-push ends e place (omega arith) in
        let t = get_or_append_left ends (e ∷ []) 0 place before in
        (omega arith, omega (arith, length-append items more))
    | inr last ↦
        let here : place ≡ length ends = omega (arith, length-append ends (e ∷ [])) in
        let s = start_of-push ends e place (omega arith) in
        let f : start_of ends place ≡ length items = ap (start_of ends) here ∙ w.full in
        let t : get_or (ends ++ e ∷ []) place 0 ≡ e = ap (λ (k : ℕ). get_or (ends ++ e ∷ []) k 0) here ∙ get_or_push ends e 0 (length ends) refl in
        (omega arith, omega (arith, length-append items more))
  ];
  full =
      let long : length (ends ++ e ∷ []) ≡ suc (length ends) = omega (arith, length-append ends (e ∷ [])) in
      ap (start_of (ends ++ e ∷ [])) long ∙ get_or_push ends e 0 (length ends) refl ∙ is ∙ sym (length-append items more);
}

-- one more slot
pub run_slots-push : {X : Type 0} (reading : List X → Value) (old new : Option (List ℕ)) (items more : List X) (ends : List ℕ) (e : ℕ) (valid : Bool)
    → Writes ends (Some items) → e ≡ length items + length more → AddsValid old new (length ends) valid
    → run_slots reading new (items ++ more) (ends ++ e ∷ []) 0 (length (ends ++ e ∷ [])) ≡ run_slots reading old items ends 0 (length ends) ++ (if valid then Some (reading more) else None) ∷ []
run_slots-push {X} reading old new items more ends e valid w is a =
    let long : length (ends ++ e ∷ []) ≡ length ends + 1 = omega (arith, length-append ends (e ∷ [])) in
    let at : 0 + length ends ≡ length ends = omega arith in
    let f : ℕ → Option Value = run_slot reading new (items ++ more) (ends ++ e ∷ []) in
    ap (listed f 0) long
    ∙ listed-end f 0 (length ends)
    ∙ ap (λ (xs : List (Option Value)). xs ++ f (0 + length ends) ∷ []) (listed-same f (run_slot reading old items ends) 0 (length ends) (λ j low high.
    ap (λ (b : Bool). if b then Some (reading (run_at (items ++ more) (ends ++ e ∷ []) j)) else None) (a.others j (omega arith))
    ∙ ap (λ (xs : List X). if valid_at old j then Some (reading xs) else None) (run_at-push items more ends e j w.inside (omega arith))))
    ∙ ap (λ (j : ℕ). run_slots reading old items ends 0 (length ends) ++ f j ∷ []) at
    ∙ ap (λ (b : Bool). run_slots reading old items ends 0 (length ends) ++ (if b then Some (reading (run_at (items ++ more) (ends ++ e ∷ []) (length ends))) else None) ∷ []) a.here
    ∙ ap (λ (xs : List X). run_slots reading old items ends 0 (length ends) ++ (if valid then Some (reading xs) else None) ∷ []) (run_at-last items more ends e w.full is)

module _ {X : Type 0} (p : X → Bool) where
  pub list_all-take : (n : ℕ) (xs : List X) → list_all p xs ≡ true → list_all p (take n xs) ≡ true
  list_all-take zero xs h = refl
  list_all-take (suc n) [] h = refl
  list_all-take (suc n) (x ∷ xs) h = both (p x) (list_all p xs) (list_all p (take n xs)) h (list_all-take n xs)
    where
      both : (a b c : Bool) → (a && b) ≡ true → (b ≡ true → c ≡ true) → (a && c) ≡ true
      both true b c h f = f h
      both false b c h f = h

  pub list_all-drop : (n : ℕ) (xs : List X) → list_all p xs ≡ true → list_all p (drop n xs) ≡ true
  list_all-drop zero xs h = h
  list_all-drop (suc n) [] h = refl
  list_all-drop (suc n) (x ∷ xs) h = list_all-drop n xs (right (p x) (list_all p xs) h)
    where
      right : (a b : Bool) → (a && b) ≡ true → b ≡ true
      right true b h = h
      right false true h = refl
      right false false h = h

  pub list_all-replicate : (n : ℕ) (x : X) → p x ≡ true → list_all p (replicate n x) ≡ true
  list_all-replicate zero x h = refl
  list_all-replicate (suc n) x h = ap (λ (b : Bool). b && list_all p (replicate n x)) h ∙ list_all-replicate n x h

  pub list_all-push : (xs : List X) (x : X) → list_all p xs ≡ true → p x ≡ true → list_all p (xs ++ x ∷ []) ≡ true
  list_all-push [] x h k = ap (λ (b : Bool). b && true) k
  list_all-push (y ∷ xs) x h k = both (p y) (list_all p xs) (list_all p (xs ++ x ∷ [])) h (λ e. list_all-push xs x e k)
    where
      both : (a b c : Bool) → (a && b) ≡ true → (b ≡ true → c ≡ true) → (a && c) ≡ true
      both true b c h f = f h
      both false b c h f = h

  pub list_all-get : (xs : List X) (i : ℕ) (d : X) → i < length xs → list_all p xs ≡ true → p (get_or xs i d) ≡ true
  list_all-get [] i d less h = absurd (omega arith)
  list_all-get (x ∷ xs) zero d less h = left (p x) (list_all p xs) h
    where
      left : (a b : Bool) → (a && b) ≡ true → a ≡ true
      left true b h = refl
      left false b h = h
  list_all-get (x ∷ xs) (suc i) d less h = list_all-get xs i d (omega arith) (right (p x) (list_all p xs) h)
    where
      right : (a b : Bool) → (a && b) ≡ true → b ≡ true
      right true b h = h
      right false true h = refl
      right false false h = h

  -- rows of any indices, where what stands for none passes
  pub list_all-taken : (indices : List ℕ) (xs : List X) (d : X) → p d ≡ true → list_all p xs ≡ true → list_all p (map (λ i. get_or xs i d) indices) ≡ true
  list_all-taken [] xs d h k = refl
  list_all-taken (i ∷ indices) xs d h k = ap (λ (b : Bool). b && list_all p (map (λ i. get_or xs i d) indices)) (one xs i k) ∙ list_all-taken indices xs d h k
    where
      one : (xs : List X) (i : ℕ) → list_all p xs ≡ true → p (get_or xs i d) ≡ true
      one [] i k = h
      one (x ∷ xs) zero k = list_all-get (x ∷ xs) zero d (omega arith) k
      one (x ∷ xs) (suc i) k = one xs i (right (p x) (list_all p xs) k)
        where
          right : (a b : Bool) → (a && b) ≡ true → b ≡ true
          right true b h = h
          right false true h = refl
          right false false h = h

-- the slot that is pushed passes
pub passes-push : (p : Value → Bool) (b : Bool) (v : Value) → (b ≡ true → p v ≡ true) → passes p (if b then Some v else None) ≡ true
passes-push p true v h = h refl
passes-push p false v h = refl

-- one more slot, where the leaf is taken out of its place and put back
pub written-push : {X B : Type 0} (p : Value → Bool) (reading : List X → Value) (written : B → List X) (old new : Option (List ℕ)) (leaf : Option B) (before after : B) (more : List X) (ends pushed : List ℕ) (e place : ℕ) (valid : Bool) (slots : List (Option Value))
    → Some before ≡ leaf → written after ≡ written before ++ more → pushed ≡ ends ++ e ∷ [] → e ≡ start_of ends (length ends) + length more
    → Writes ends (option_map written leaf) → place ≡ length ends → AddsValid old new place valid
    → run_slots reading old (items_or (option_map written leaf)) ends 0 (length ends) ≡ slots
    → Fit p reading old ends (option_map written leaf) → (valid ≡ true → p (reading more) ≡ true)
    → Fills pushed (written after) × (run_slots reading new (written after) pushed 0 (length pushed) ≡ slots ++ (if valid then Some (reading more) else None) ∷ []) × (list_all (passes p) (run_slots reading new (written after) pushed 0 (length pushed)) ≡ true)
written-push {X} {B} test reading written old new leaf before after more ends pushed e place valid slots p q r is w at b view fit one =
    let a : AddsValid old new (length ends) valid = subst (λ (n : ℕ). AddsValid old new n valid) at b in
    let fills : Fills ends (written before) = subst (λ (o : Option B). Writes ends (option_map written o)) (sym p) w in
    let seen : run_slots reading old (written before) ends 0 (length ends) ≡ slots = ap (λ (o : Option B). run_slots reading old (items_or (option_map written o)) ends 0 (length ends)) p ∙ view in
    let end : e ≡ length (written before) + length more = is ∙ ap (λ (n : ℕ). n + length more) fills.full in
    let fits : list_all (passes test) (run_slots reading old (written before) ends 0 (length ends)) ≡ true = subst (λ (o : Option B). Fit test reading old ends (option_map written o)) (sym p) fit in
    let all : run_slots reading new (written after) pushed 0 (length pushed) ≡ run_slots reading old (written before) ends 0 (length ends) ++ (if valid then Some (reading more) else None) ∷ [] =
    ap (λ (es : List ℕ). run_slots reading new (written after) es 0 (length es)) r
    ∙ ap (λ (xs : List X). run_slots reading new xs (ends ++ e ∷ []) 0 (length (ends ++ e ∷ []))) q
    ∙ run_slots-push reading old new (written before) more ends e valid fills end a
    in (
      subst (λ (es : List ℕ). Fills es (written after)) (sym r) (subst (λ (xs : List X). Fills (ends ++ e ∷ []) xs) (sym q) (Writes-push (written before) more ends e fills end)),
      all ∙ ap (λ (s : List (Option Value)). s ++ (if valid then Some (reading more) else None) ∷ []) seen,
      ap (list_all (passes test)) all ∙ list_all-push (passes test) (run_slots reading old (written before) ends 0 (length ends)) (if valid then Some (reading more) else None) fits (passes-push test valid (reading more) one),
    )

-- a part of a part, kept in equal buffers
pub run_slots-part : {X : Type 0} (reading : List X → Value) (words copies : Option (List ℕ)) (items others : List X) (ends same : List ℕ) (offset len k n : ℕ) (slots : List (Option Value))
    → copies ≡ words → others ≡ items → same ≡ ends → run_slots reading words items ends offset len ≡ slots → k + n ≤ length slots
    → run_slots reading copies others same (offset + k) n ≡ take n (drop k slots)
run_slots-part {X} reading words copies items others ends same offset len k n slots p q r e room =
    let inside : k + n ≤ len = omega (arith, ap length e, length-run_slots reading words items ends offset len) in
    ap (λ (ws : Option (List ℕ)). run_slots reading ws others same (offset + k) n) p
    ∙ ap (λ (xs : List X). run_slots reading words xs same (offset + k) n) q
    ∙ ap (λ (es : List ℕ). run_slots reading words items es (offset + k) n) r
    ∙ sym (listed-part (run_slot reading words items ends) offset len k n inside)
    ∙ ap (λ (s : List (Option Value)). take n (drop k s)) e

-- a slot
pub run_slots-get : {X : Type 0} (reading : List X → Value) (words : Option (List ℕ)) (items : List X) (ends : List ℕ) (offset len k : ℕ) (slots : List (Option Value)) (b : Bool) (run : List X)
    → run_slots reading words items ends offset len ≡ slots → k < length slots → b ≡ valid_at words (offset + k) → run ≡ run_at items ends (offset + k)
    → (if b then Some (reading run) else None) ≡ get_or slots k None
run_slots-get {X} reading words items ends offset len k slots b run e less valid is =
    let inside : k < len = omega (arith, ap length e, length-run_slots reading words items ends offset len) in
    ap (λ (c : Bool). if c then Some (reading run) else None) valid
    ∙ ap (λ (xs : List X). if valid_at words (offset + k) then Some (reading xs) else None) is
    ∙ sym (get_or-listed (run_slot reading words items ends) offset len k None inside)
    ∙ ap (λ (ys : List (Option Value)). get_or ys k None) e

-- whether a slot is valid
pub run_slots-valid : {X : Type 0} (reading : List X → Value) (words : Option (List ℕ)) (items : List X) (ends : List ℕ) (offset len k : ℕ) (slots : List (Option Value))
    → run_slots reading words items ends offset len ≡ slots → k < length slots → valid_at words (offset + k) ≡ is_some (get_or slots k None)
run_slots-valid {X} reading words items ends offset len k slots e less =
    let run : List X = run_at items ends (offset + k) in
    one (valid_at words (offset + k)) run
    ∙ ap is_some (run_slots-get reading words items ends offset len k slots (valid_at words (offset + k)) run e less refl refl)
  where
    one : (b : Bool) (run : List X) → b ≡ is_some (if b then Some (reading run) else None)
    one true run = refl
    one false run = refl

-- nulls are the places that aren't valid
run_slots-count : {X : Type 0} (reading : List X → Value) (words : Option (List ℕ)) (items : List X) (ends : List ℕ) (i n : ℕ) → null_count (run_slots reading words items ends i n) + valid_count words i n ≡ n
run_slots-count reading words items ends i zero = refl
run_slots-count {X} reading words items ends i (suc n) = one (valid_at words i) (run_at items ends i) (run_slots-count reading words items ends (i + 1) n)
  where
    one : (b : Bool) (run : List X) → count_by is_none (run_slots reading words items ends (i + 1) n) + valid_count words (i + 1) n ≡ n
        → count_by is_none ((if b then Some (reading run) else None) ∷ run_slots reading words items ends (i + 1) n) + ((if b then 1 else 0) + valid_count words (i + 1) n) ≡ suc n
    one true run e = omega (arith, sum_by-cons (λ s. if is_none s then 1 else 0) (Some (reading run)) (run_slots reading words items ends (i + 1) n), e)
    one false run e = omega (arith, sum_by-cons (λ s. if is_none s then 1 else 0) None (run_slots reading words items ends (i + 1) n), e)

pub run_slots-null_count : {X : Type 0} (reading : List X → Value) (words : Option (List ℕ)) (items : List X) (ends : List ℕ) (i n nulls : ℕ) (slots : List (Option Value))
    → run_slots reading words items ends i n ≡ slots → nulls + valid_count words i n ≡ n → nulls ≡ null_count slots
run_slots-null_count reading words items ends i n nulls slots e counted =
    let all = run_slots-count reading words items ends i n in
    let is : nulls ≡ null_count (run_slots reading words items ends i n) = omega (arith, all, counted) in
    is ∙ ap null_count e

-- the same slots, kept in equal buffers
pub run_slots-same : {X : Type 0} (reading : List X → Value) (words copies : Option (List ℕ)) (items others : List X) (ends same : List ℕ) (offset len : ℕ) (slots : List (Option Value))
    → copies ≡ words → others ≡ items → same ≡ ends → run_slots reading words items ends offset len ≡ slots → run_slots reading copies others same offset len ≡ slots
run_slots-same {X} reading words copies items others ends same offset len slots p q r e =
    ap (λ (ws : Option (List ℕ)). run_slots reading ws others same offset len) p
    ∙ ap (λ (xs : List X). run_slots reading words xs same offset len) q
    ∙ ap (λ (es : List ℕ). run_slots reading words items es offset len) r
    ∙ e

-- all null
pub run_slots-nulls : {X : Type 0} (reading : List X → Value) (items : List X) (ends words : List ℕ) (m n : ℕ) → words ≡ replicate m 0 → run_slots reading (Some words) items ends 0 n ≡ replicate n None
run_slots-nulls {X} reading items ends words m n e =
    ap (λ (ws : List ℕ). run_slots reading (Some ws) items ends 0 n) e
    ∙ listed-constant (run_slot reading (Some (replicate m 0)) items ends) None 0 n (λ j low high.
    ap (λ (b : Bool). if b then Some (reading (run_at items ends j)) else None) (no_bits m j))

-- ends that are all 0
pub Ends-zero : (ends : List ℕ) (n room : ℕ) → ends ≡ replicate n 0 → Ends ends room
Ends-zero ends n room e place less =
    let here : get_or ends place 0 ≡ 0 = ap (λ (l : List ℕ). get_or l place 0) e ∙ zero_in n place in
    let before : start_of ends place ≡ 0 = ap (λ (l : List ℕ). start_of l place) e ∙ starts n place in
    (omega arith, omega arith)
  where
    zero_in : (n i : ℕ) → get_or (replicate {A = ℕ} n 0) i 0 ≡ 0
    zero_in zero i = refl
    zero_in (suc n) zero = refl
    zero_in (suc n) (suc i) = zero_in n i

    starts : (n i : ℕ) → start_of (replicate {A = ℕ} n 0) i ≡ 0
    starts n zero = refl
    starts n (suc i) = zero_in n i

-- each slot passes a test that all pass
pub list_all-true : {X : Type 0} (xs : List X) → list_all (λ x. true) xs ≡ true
list_all-true [] = refl
list_all-true (x ∷ xs) = list_all-true xs

-- the ends of a leaf with equal slots
pub Ends-same : {X : Type 0} (items others : List X) (ends same : List ℕ) → others ≡ items → same ≡ ends → Ends ends (length items) → Ends same (length others)
Ends-same items others ends same p q h = subst (λ es. Ends es (length others)) (sym q) (subst (λ xs. Ends ends (length xs)) (sym p) h)

-- the run between two bounds
pub run_is : {X : Type 0} (items : List X) (ends : List ℕ) (place from long : ℕ) → from ≡ start_of ends place → long ≡ get_or ends place 0 - start_of ends place → take long (drop from items) ≡ run_at items ends place
run_is items ends place from long p q = ap (λ (n : ℕ). take n (drop from items)) q ∙ ap (λ (n : ℕ). take (get_or ends place 0 - start_of ends place) (drop n items)) p

pub replicate-read : {X : Type 0} (n i : ℕ) (x : X) → i < n → replicate (n - i) x ≡ x ∷ replicate (n - (i + 1)) x
replicate-read {X} n i x h = let is : n - i ≡ suc (n - (i + 1)) = omega arith in ap (λ (k : ℕ). replicate {A = X} k x) is

pub ruleset run_laws = (length-listed, length-run_slots, Reaches-le, list_all-true, start_of-back, list_all-take, list_all-drop, list_all-replicate, list_all-push, list_all-taken)

-- the same runs as another reading gives them
pub run_slots-read : {X : Type 0} (reading other : List X → Value) (words copies : Option (List ℕ)) (items others : List X) (ends same : List ℕ) (offset len : ℕ) (slots : List (Option Value)) → ((run : List X) → other run ≡ reading run)
    → copies ≡ words → others ≡ items → same ≡ ends → run_slots reading words items ends offset len ≡ slots → run_slots other copies others same offset len ≡ slots
run_slots-read {X} reading other words copies items others ends same offset len slots alike p q r e =
    listed-same (run_slot other copies others same) (run_slot reading copies others same) offset len (λ j low high.
    ap (λ (v : Value). if valid_at copies j then Some v else None) (alike (run_at others same j)))
    ∙ run_slots-same reading words copies items others ends same offset len slots p q r e
