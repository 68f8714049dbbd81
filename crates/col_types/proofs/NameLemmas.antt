-- A set of shared texts, seen as the names of zones.
use Rattle.std.specs.Prelude.{◌≡◌, ◌≤◌, ◌-◌, ◌||◌, drop, replicate, ℕ, Bool, true, false, List, [], ◌∷◌, length, map, refl}
use Rattle.std.proofs.Common.{ap, ap₂, ◌∙◌, sym, subst, ⊎_elim, Ordering, Less, Equal, Greater, nat_cmp}
use Rattle.std.proofs.lemmas.List.{drop-replicate}
use Rattle.std.proofs.lemmas.Bool.{or_cases}
use Rattle.std.proofs.lemmas.Map.Text.{is_eq-slice_cmp}
use Rattle.std.proofs.lemmas.Slice.Eq.{bytes_eq-Decides}
use Rattle.std.specs.declared.alloc.Global.{Global}
use Rattle.std.specs.declared.rc.RcStr.{RcStr}
use Rattle.std.specs.Rc.{rc_str_bytes}
use Rattle.std.specs.Str.{bytes_eq}
use Rattle.std.specs.List.{list_any}
use Rattle.std.specs.Ordering.{is_eq, match_ordering}
use Rattle.std.specs.Cmp.Lexicographic.{slice_cmp}
use Rattle.std.specs.BTreeMap.{is_at}
use Rattle.std.specs.BTreeSet.{insert_key}
use Rattle.col_types.specs.Zones.{has_name, with_name, AreShort}

-- The names that shared texts are.
abbrev pub names_of : List (RcStr Global) → List (List ℕ)
names_of keys = map rc_str_bytes keys

-- The order of shared texts: that of their bytes.
abbrev pub text_cmp : RcStr Global → RcStr Global → Ordering
text_cmp x y = slice_cmp nat_cmp (rc_str_bytes x) (rc_str_bytes y)

-- A look-up in the set is one among the names.
pub look_up-has_name : (keys : List (RcStr Global)) (name : List ℕ)
    → list_any (is_at (λ key. slice_cmp nat_cmp name (rc_str_bytes key))) keys
    ≡ has_name (names_of keys) name
look_up-has_name [] name = refl
look_up-has_name (key ∷ keys) name =
    ap₂ (λ a b. a || b) (is_eq-slice_cmp name (rc_str_bytes key)) (look_up-has_name keys name)

more_names : (o : Ordering) (key x : RcStr Global) (xs ys : List (RcStr Global))
    (zs : List (List ℕ))
    → names_of ys ≡ zs
    → names_of (match_ordering o (key ∷ x ∷ xs) (x ∷ xs) (x ∷ ys))
    ≡ match_ordering o (rc_str_bytes key ∷ names_of (x ∷ xs)) (names_of (x ∷ xs))
    (rc_str_bytes x ∷ zs)
more_names Less key x xs ys zs e = refl
more_names Equal key x xs ys zs e = refl
more_names Greater key x xs ys zs e = ap (λ l. rc_str_bytes x ∷ l) e

-- A text that the set takes is a name more.
pub insert_key-with_name : (keys : List (RcStr Global)) (key : RcStr Global)
    → names_of (insert_key text_cmp keys key) ≡ with_name (names_of keys) (rc_str_bytes key)
insert_key-with_name [] key = refl
insert_key-with_name (x ∷ xs) key =
    more_names (text_cmp key x) key x xs (insert_key text_cmp xs key)
    (with_name (names_of xs) (rc_str_bytes key))
    (insert_key-with_name xs key)

twice : (a b : Bool) → (a || b) ≡ (a || (a || b))
twice true b = refl
twice false b = refl

swapped : (a b c : Bool) → (a || (b || c)) ≡ (b || (a || c))
swapped true true c = refl
swapped true false c = refl
swapped false true c = refl
swapped false false c = refl

tied : (xs ys : List ℕ) → slice_cmp nat_cmp xs ys ≡ Equal → xs ≡ ys
tied xs ys e = (bytes_eq-Decides xs ys).0 (sym (is_eq-slice_cmp xs ys) ∙ ap is_eq e)

has_more : (o : Ordering) (name x q : List ℕ) (xs ys : List (List ℕ)) → slice_cmp nat_cmp name x ≡ o
    → has_name ys q ≡ (bytes_eq q name || has_name xs q)
    → has_name (match_ordering o (name ∷ x ∷ xs) (x ∷ xs) (x ∷ ys)) q
    ≡ (bytes_eq q name || has_name (x ∷ xs) q)
has_more Less name x q xs ys e h = refl
has_more Equal name x q xs ys e h =
    subst (λ n. has_name (x ∷ xs) q ≡ (bytes_eq q n || has_name (x ∷ xs) q)) (sym (tied name x e))
    (twice (bytes_eq q x) (has_name xs q))
has_more Greater name x q xs ys e h =
    ap (λ t. bytes_eq q x || t) h ∙ swapped (bytes_eq q x) (bytes_eq q name) (has_name xs q)

-- The names with one more are the new one and those that were there.
pub has_name-with_name : (names : List (List ℕ)) (name q : List ℕ)
    → has_name (with_name names name) q ≡ (bytes_eq q name || has_name names q)
has_name-with_name [] name q = refl
has_name-with_name (x ∷ xs) name q =
    has_more (slice_cmp nat_cmp name x) name x q xs (with_name xs name) refl
    (has_name-with_name xs name q)

-- Names stay short with a short one more.
pub AreShort-with_name : (names : List (List ℕ)) (name : List ℕ) → AreShort names → length name ≤ 64
    → AreShort (with_name names name)
AreShort-with_name names name old short = λ q e.
    ⊎_elim (λ new. subst (λ l. length l ≤ 64) (sym ((bytes_eq-Decides q name).0 new)) short) (old q)
    (or_cases (bytes_eq q name) (has_name names q) (sym (has_name-with_name names name q) ∙ e))

-- The zeros that stand behind a name.
pub zeros_left : (n m : ℕ) → drop {A = ℕ} n (replicate {A = ℕ} m 0) ≡ replicate {A = ℕ} (m - n) 0
zeros_left n m = drop-replicate n m 0
