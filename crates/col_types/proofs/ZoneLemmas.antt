-- The names of zones are canonical.
use Rattle.std.specs.Prelude.{◌≡◌, ℕ, Bool, true, false, if◌then◌else◌, List, [], ◌∷◌, codes, Option, Some, None, Ok, option_and_then, option_map, refl}
use Rattle.std.proofs.Common.{ap, subst, ◌⊎◌, inl, inr, ⊎_elim}
use Rattle.std.specs.Option.{ok_or}
use Rattle.col_types.specs.declared.error.PolarsError.TheVariants.{Zone}
use Rattle.col_types.specs.Zones.{opt_zone, zone_of, is_accepted, accepted_name, gmt_name, offset_name, unsigned_offset_name, is_offset, two_digits}
use Rattle.col_types.specs.Laws.{GivesItselfAgain}

-- What an optional value that was passed on was.
passed_on : {X Y : Type 0} (f : X → Option Y) (o : Option X) (y : Y) → option_and_then f o ≡ Some y
    → (x : X) × (o ≡ Some x) × (f x ≡ Some y)
passed_on f None y e = cc
passed_on f (Some x) y e = (x, refl, e)

if_offset : (b behind : Bool) (hour : ℕ) (z : List ℕ)
    → (if b then Some (gmt_name behind hour) else None) ≡ Some z → z ≡ gmt_name behind hour
if_offset true behind hour z e = cc
if_offset false behind hour z e = cc

abbrev IsGmt : List ℕ → Type 0
IsGmt z = (behind : Bool) × (hour : ℕ) × (z ≡ gmt_name behind hour)

unsigned_is_gmt : (behind : Bool) (text z : List ℕ) → unsigned_offset_name behind text ≡ Some z
    → IsGmt z
unsigned_is_gmt behind [] z e = cc
unsigned_is_gmt behind (tens ∷ []) z e = cc
unsigned_is_gmt behind (tens ∷ ones ∷ minutes) z e =
    let hour = two_digits tens ones in
    (behind, hour, if_offset (is_offset tens ones minutes) behind hour z e)

by_sign : (p m : Bool) (a b c : Option (List ℕ)) (z : List ℕ)
    → (a ≡ Some z → IsGmt z) → (b ≡ Some z → IsGmt z) → (c ≡ Some z → IsGmt z)
    → (if p then a else (if m then b else c)) ≡ Some z → IsGmt z
by_sign true m a b c z ha hb hc e = ha e
by_sign false true a b c z ha hb hc e = hb e
by_sign false false a b c z ha hb hc e = hc e

offset_is_gmt : (text z : List ℕ) → offset_name text ≡ Some z → IsGmt z
offset_is_gmt [] z e = cc
offset_is_gmt (byte ∷ text) z e =
    by_sign _ _ (unsigned_offset_name false text) (unsigned_offset_name true text)
    (unsigned_offset_name false (byte ∷ text)) z
    (unsigned_is_gmt false text z) (unsigned_is_gmt true text z)
    (unsigned_is_gmt false (byte ∷ text) z) e

if_accepted : (b : Bool) (z name : List ℕ) (other : Option (List ℕ))
    → (if b then Some z else None) ≡ Some name
    → (z ≡ name) × ((if b then Some z else other) ≡ Some name)
if_accepted true z name other e = (cc, e)
if_accepted false z name other e = cc

-- An `Etc/GMT` name that is accepted names its zone.
gmt_again : (names : List (List ℕ)) (behind : Bool) (hour : ℕ) (name : List ℕ)
    → accepted_name names (gmt_name behind hour) ≡ Some name
    → opt_zone names (Some name) ≡ Ok (Some name)
gmt_again names behind hour name e =
    let z = gmt_name behind hour in
    let last = option_and_then (accepted_name names) (offset_name z) in
    let h = if_accepted (is_accepted names z) z name last e in
    subst (λ n. opt_zone names (Some n) ≡ Ok (Some name)) h.0
    (ap (λ zone. ok_or (option_map Some zone) Zone) h.1)

-- What was not refused.
answered : (o : Option (List ℕ)) (name : List ℕ)
    → ok_or (option_map Some o) Zone ≡ Ok (Some name) → o ≡ Some name
answered None name e = cc
answered (Some z) name e = cc

-- Which rule gave a name.
by_rule : (w u a : Bool) (text name : List ℕ) (offset : Option (List ℕ))
    → (if w then Some (codes "*") else (if u then Some (codes "UTC")
    else (if a then Some text else offset))) ≡ Some name
    → (codes "*" ≡ name) ⊎ ((codes "UTC" ≡ name) ⊎ ((text ≡ name) ⊎ (offset ≡ Some name)))
by_rule true u a text name offset e = inl cc
by_rule false true a text name offset e = inr (inl cc)
by_rule false false true text name offset e = inr (inr (inl cc))
by_rule false false false text name offset e = inr (inr (inr e))

-- With the same names, the name of a zone gives that zone again.
pub canonical_names : (names : List (List ℕ)) (text : Option (List ℕ)) → GivesItselfAgain names text
canonical_names names None name e = cc
canonical_names names (Some []) name e = cc
canonical_names names (Some (byte ∷ text)) name e =
    let again : List ℕ → Type 0 = λ n. opt_zone names (Some n) ≡ Ok (Some n) in
    let given = answered (zone_of names (byte ∷ text)) name e in
    ⊎_elim (λ same. subst again same refl)
    (⊎_elim (λ same. subst again same refl)
    (⊎_elim (λ same. subst (λ n. opt_zone names (Some n) ≡ Ok (Some name)) same e)
    (λ last.
    let offset = passed_on (accepted_name names) (offset_name (byte ∷ text)) name last in
    let gmt = offset_is_gmt (byte ∷ text) offset.0 offset.1 in
    gmt_again names gmt.0 gmt.1 name
    (subst (λ z. accepted_name names z ≡ Some name) gmt.2 offset.2))))
    (by_rule _ _ _ (byte ∷ text) name
    (option_and_then (accepted_name names) (offset_name (byte ∷ text))) given)
