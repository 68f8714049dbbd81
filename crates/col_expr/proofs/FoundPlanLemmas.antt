-- The plan that columns give is valid.
use Rattle.std.proofs.Common.{◌≡◌, ℕ, ◌+◌, ◌≤◌, ◌<◌, List, [], ◌∷◌, ◌++◌, Bool, true, false, Option}
use Rattle.std.proofs.Common.{Some, None, if◌then◌else◌, refl, sym, ap, ◌∙◌, arith, Greater}
use Rattle.std.proofs.Common.{zero-add}
use Rattle.std.specs.Prelude.{slice_get, nat_lt, nat_le, int_le}
use Rattle.std.specs.List.{list_all, All}
use Rattle.std.specs.BTreeMap.{is_at}
use Rattle.std.specs.Ordering.{nat_cmp, match_ordering}
use Rattle.std.proofs.lemmas.Bool.Decides.{nat_tests}
use Rattle.std.proofs.lemmas.Bool.{and_parts, and_from}
use Rattle.col_types.specs.declared.data_type.DataType.{DataType}
use Rattle.col_model.specs.Arithmetic.{Interval}
use Rattle.col_model.specs.Column.{Column, IsValidColumn}
use Rattle.col_expr.specs.Tree.{Tree, Input, Cast, Binary, ScalarRight, ScalarLeft, InUnit, Shift}
use Rattle.col_expr.specs.Tree.{node_count}
use Rattle.col_expr.specs.Numbers.{Numbers, number_at, below, left_of, right_of, numbers_from}
use Rattle.col_expr.specs.Meaning.{dtype_of}
use Rattle.col_expr.specs.Plan.{Plan, interval_in, covering, bound_by, bound_of, formula_for}
use Rattle.col_expr.specs.Plan.{image_by, image_of, fits_type, is_image_inside, is_kept_within}
use Rattle.col_expr.specs.Plan.{keeps_rule, rule_holds, rules_hold, ends_before}
use Rattle.col_expr.specs.FoundPlan.{spanned_by, is_fit, fitting, found_interval, entry_for}
use Rattle.col_expr.specs.FoundPlan.{found_from, found_plan}
use Rattle.col_expr.proofs.SpanLemmas.{inside_itself, column_holds}
use Rattle.col_expr.specs.PlanLaws.{FoundPlansAreValid}

-- ---- numbers of plans

-- each covered number is this or more
abbrev starts_at : Plan → ℕ → Bool
starts_at plan first = list_all (λ covered. nat_le first covered.0) plan

pub ends-append : (a b : Plan) (k : ℕ) → ends_before a k ≡ true → ends_before b k ≡ true → ends_before (a ++ b) k ≡ true
ends-append [] b k h g = g
ends-append (c ∷ a) b k h g =
    let parts = and_parts (nat_lt c.0 k) (ends_before a k) h in
    and_from _ _ parts.0 (ends-append a b k parts.1 g)

starts-append : (a b : Plan) (k : ℕ) → starts_at a k ≡ true → starts_at b k ≡ true → starts_at (a ++ b) k ≡ true
starts-append [] b k h g = g
starts-append (c ∷ a) b k h g =
    let parts = and_parts (nat_le k c.0) (starts_at a k) h in
    and_from _ _ parts.0 (starts-append a b k parts.1 g)

pub ends-more : (a : Plan) (k m : ℕ) → k ≤ m → ends_before a k ≡ true → ends_before a m ≡ true
ends-more [] k m le h = refl
ends-more (c ∷ a) k m le h =
    let parts = and_parts (nat_lt c.0 k) (ends_before a k) h in
    let here : nat_lt c.0 m ≡ true = further c.0 k m parts.0 le in
    and_from _ _ here (ends-more a k m le parts.1)
  where
    further : (n k m : ℕ) → nat_lt n k ≡ true → k ≤ m → nat_lt n m ≡ true
    further n k m h le = grind (arith, nat_tests)

starts-less : (a : Plan) (k m : ℕ) → m ≤ k → starts_at a k ≡ true → starts_at a m ≡ true
starts-less [] k m le h = refl
starts-less (c ∷ a) k m le h =
    let parts = and_parts (nat_le k c.0) (starts_at a k) h in
    let here : nat_le m c.0 ≡ true = nearer c.0 k m parts.0 le in
    and_from _ _ here (starts-less a k m le parts.1)
  where
    nearer : (n k m : ℕ) → nat_le k n ≡ true → m ≤ k → nat_le m n ≡ true
    nearer n k m h le = grind (arith, nat_tests)

-- a number past those of a plan is looked up in what follows
pub past_first : (a b : Plan) (n : ℕ) → ends_before a n ≡ true → interval_in (a ++ b) n ≡ interval_in b n
past_first [] b n h = refl
past_first (c ∷ a) b n h =
    let parts = and_parts (nat_lt c.0 n) (ends_before a n) h in
    let apart : is_at (nat_cmp n) c.0 ≡ false = not_at c.0 n parts.0 in
    ap (λ t. if t then Some c.1 else interval_in (a ++ b) n) apart ∙ past_first a b n parts.1
  where
    not_at : (m n : ℕ) → nat_lt m n ≡ true → is_at (nat_cmp n) m ≡ false
    not_at m n h = grind (arith, nat_tests)

none_before : (b : Plan) (n m : ℕ) → n < m → starts_at b m ≡ true → interval_in b n ≡ None
none_before [] n m lt h = refl
none_before (c ∷ b) n m lt h =
    let parts = and_parts (nat_le m c.0) (starts_at b m) h in
    let apart : is_at (nat_cmp n) c.0 ≡ false = not_at c.0 n m parts.0 lt in
    ap (λ t. if t then Some c.1 else interval_in b n) apart ∙ none_before b n m lt parts.1
  where
    not_at : (k n m : ℕ) → nat_le m k ≡ true → n < m → is_at (nat_cmp n) k ≡ false
    not_at k n m h lt = grind (arith, nat_tests)

-- and one before what follows in the plan itself
pub before_second : (a b : Plan) (n m : ℕ) → n < m → starts_at b m ≡ true → interval_in (a ++ b) n ≡ interval_in a n
before_second [] b n m lt h = none_before b n m lt h
before_second (c ∷ a) b n m lt h = ap (λ o. if is_at (nat_cmp n) c.0 then Some c.1 else o) (before_second a b n m lt h)

-- a plan takes one more at its end
pub put_last : (a : Plan) (n : ℕ) (range : Interval) → ends_before a n ≡ true → covering a n range ≡ a ++ (n, range) ∷ []
put_last [] n range h = refl
put_last (c ∷ a) n range h =
    let parts = and_parts (nat_lt c.0 n) (ends_before a n) h in
    let after : nat_cmp n c.0 ≡ Greater = greater c.0 n parts.0 in
    ap (λ o. match_ordering o ((n, range) ∷ c ∷ a) ((c.0, range) ∷ a) (c ∷ covering a n range)) after
    ∙ ap (λ p. c ∷ p) (put_last a n range parts.1)
  where
    greater : (m n : ℕ) → nat_lt m n ≡ true → nat_cmp n m ≡ Greater
    greater m n h = grind (arith, nat_tests)

-- ---- the entry of a node

pub entry-ends : (n : ℕ) (o : Option Interval) → ends_before (entry_for n o) (n + 1) ≡ true
entry-ends n None = refl
entry-ends n (Some range) = and_from _ _ (less n) refl
  where
    less : (n : ℕ) → nat_lt n (n + 1) ≡ true
    less n = grind (arith, nat_tests)

entry-starts : (n : ℕ) (o : Option Interval) → starts_at (entry_for n o) n ≡ true
entry-starts n None = refl
entry-starts n (Some range) = and_from _ _ (least n) refl
  where
    least : (n : ℕ) → nat_le n n ≡ true
    least n = grind (arith, nat_tests)

entry-at : (n : ℕ) (o : Option Interval) → interval_in (entry_for n o) n ≡ o
entry-at n None = refl
entry-at n (Some range) = ap (λ t. if t then Some range else None) (here n)
  where
    here : (n : ℕ) → is_at (nat_cmp n) n ≡ true
    here n = grind (arith, nat_tests)

-- ---- where the numbers of a found plan lie

record LiesBetween (plan : Plan) (first end : ℕ) : Type 0 where
  starts : starts_at plan first ≡ true
  ends : ends_before plan end ≡ true

one_more : (a : Plan) (first n : ℕ) (o : Option Interval) → first ≤ n → LiesBetween a first n → LiesBetween (a ++ entry_for n o) first (n + 1)
one_more a first n o le h = record {
  starts = starts-append a (entry_for n o) first h.starts (starts-less (entry_for n o) n first le (entry-starts n o));
  ends = ends-append a (entry_for n o) (n + 1) (ends-more a n (n + 1) (omega arith) h.ends) (entry-ends n o);
}

by_sum : (first n : ℕ) (plan : Plan) → LiesBetween plan first (first + n + 1) → LiesBetween plan first (first + (n + 1))
by_sum first n plan h =
    let end : first + n + 1 ≡ first + (n + 1) = omega arith in
    record { starts = h.starts; ends = ap (ends_before plan) (sym end) ∙ h.ends }

found-between : (inputs : List Column) (tree : Tree) (first : ℕ) → LiesBetween (found_from inputs (numbers_from first tree) tree) first (first + node_count tree)
found-between inputs (Input index) first = record { starts = entry-starts first _; ends = entry-ends first _ }
found-between inputs (Cast e t o) first =
    by_sum first (node_count e) (found_from inputs (numbers_from first (Cast e t o)) (Cast e t o)) (one_more (found_from inputs (numbers_from first e) e) first (first + node_count e) _ (omega arith) (found-between inputs e first))
found-between inputs (Binary op l r) first =
    let L = found-between inputs l first in
    let R = found-between inputs r (first + node_count l) in
    let both = one_more (found_from inputs (numbers_from (first + node_count l) r) r) (first + node_count l) (first + node_count l + node_count r) (found_interval inputs (Binary op l r)) (omega arith) R in
    let rest = found_from inputs (numbers_from (first + node_count l) r) r ++ entry_for (first + node_count l + node_count r) (found_interval inputs (Binary op l r)) in
    let end : first + node_count l + node_count r + 1 ≡ first + (node_count l + node_count r + 1) = omega arith in
    let plan = found_from inputs (numbers_from first l) l ++ rest in
    let E : ends_before plan (first + node_count l + node_count r + 1) ≡ true =
    ends-append (found_from inputs (numbers_from first l) l) rest (first + node_count l + node_count r + 1) (ends-more (found_from inputs (numbers_from first l) l) (first + node_count l) (first + node_count l + node_count r + 1) (omega arith) L.ends) both.ends in
    record {
      starts = starts-append (found_from inputs (numbers_from first l) l) rest first L.starts (starts-less rest (first + node_count l) first (omega arith) both.starts);
      ends = ap (ends_before plan) (sym end) ∙ E;
    }
found-between inputs (ScalarRight e op k) first =
    by_sum first (node_count e) (found_from inputs (numbers_from first (ScalarRight e op k)) (ScalarRight e op k)) (one_more (found_from inputs (numbers_from first e) e) first (first + node_count e) _ (omega arith) (found-between inputs e first))
found-between inputs (ScalarLeft k op e) first =
    by_sum first (node_count e) (found_from inputs (numbers_from first (ScalarLeft k op e)) (ScalarLeft k op e)) (one_more (found_from inputs (numbers_from first e) e) first (first + node_count e) _ (omega arith) (found-between inputs e first))
found-between inputs (InUnit e u) first =
    by_sum first (node_count e) (found_from inputs (numbers_from first (InUnit e u)) (InUnit e u)) (one_more (found_from inputs (numbers_from first e) e) first (first + node_count e) _ (omega arith) (found-between inputs e first))
found-between inputs (Shift e p) first =
    by_sum first (node_count e) (found_from inputs (numbers_from first (Shift e p)) (Shift e p)) (one_more (found_from inputs (numbers_from first e) e) first (first + node_count e) _ (omega arith) (found-between inputs e first))

pub found-ends : (inputs : List Column) (tree : Tree) (first : ℕ) → ends_before (found_from inputs (numbers_from first tree) tree) (first + node_count tree) ≡ true
found-ends inputs tree first = (found-between inputs tree first).ends

-- ---- what is looked up in a found plan

-- the plan has for each node of the tree what is found for it
abbrev LooksUp : List Column → Plan → Numbers → Tree → Type 0
LooksUp inputs plan numbers (Input index) = interval_in plan (number_at numbers) ≡ found_interval inputs (Input index)
LooksUp inputs plan numbers (Cast e t o) = LooksUp inputs plan (below numbers) e × (interval_in plan (number_at numbers) ≡ found_interval inputs (Cast e t o))
LooksUp inputs plan numbers (Binary op l r) = LooksUp inputs plan (left_of numbers) l × (LooksUp inputs plan (right_of numbers) r × (interval_in plan (number_at numbers) ≡ found_interval inputs (Binary op l r)))
LooksUp inputs plan numbers (ScalarRight e op k) = LooksUp inputs plan (below numbers) e × (interval_in plan (number_at numbers) ≡ found_interval inputs (ScalarRight e op k))
LooksUp inputs plan numbers (ScalarLeft k op e) = LooksUp inputs plan (below numbers) e × (interval_in plan (number_at numbers) ≡ found_interval inputs (ScalarLeft k op e))
LooksUp inputs plan numbers (InUnit e u) = LooksUp inputs plan (below numbers) e × (interval_in plan (number_at numbers) ≡ found_interval inputs (InUnit e u))
LooksUp inputs plan numbers (Shift e p) = LooksUp inputs plan (below numbers) e × (interval_in plan (number_at numbers) ≡ found_interval inputs (Shift e p))

-- what the plan has at the root
root_at : (inputs : List Column) (plan : Plan) (numbers : Numbers) (tree : Tree) → LooksUp inputs plan numbers tree → interval_in plan (number_at numbers) ≡ found_interval inputs tree
root_at inputs plan numbers (Input index) h = h
root_at inputs plan numbers (Cast e t o) h = h.1
root_at inputs plan numbers (Binary op l r) h = h.1.1
root_at inputs plan numbers (ScalarRight e op k) h = h.1
root_at inputs plan numbers (ScalarLeft k op e) h = h.1
root_at inputs plan numbers (InUnit e u) h = h.1
root_at inputs plan numbers (Shift e p) h = h.1

-- a plan that agrees with another on the numbers from one to another
abbrev Agrees : Plan → Plan → ℕ → ℕ → Type 0
Agrees plan other first end = (n : ℕ) → first ≤ n → n < end → interval_in plan n ≡ interval_in other n

-- the plan of an operand, inside that of the node above it
inner_agrees : (plan a : Plan) (first count : ℕ) (o : Option Interval) → Agrees plan (a ++ entry_for (first + count) o) first (first + (count + 1)) → Agrees plan a first (first + count)
inner_agrees plan a first count o h n le lt =
    h n le (omega arith) ∙ before_second a (entry_for (first + count) o) n (first + count) lt (entry-starts (first + count) o)

-- the entry of the node itself
entry_agrees : (plan a : Plan) (first count : ℕ) (o : Option Interval) → Agrees plan (a ++ entry_for (first + count) o) first (first + (count + 1)) → ends_before a (first + count) ≡ true → interval_in plan (first + count) ≡ o
entry_agrees plan a first count o h ends =
    h (first + count) (omega arith) (omega arith) ∙ past_first a (entry_for (first + count) o) (first + count) ends ∙ entry-at (first + count) o

looks_up : (inputs : List Column) (plan : Plan) (tree : Tree) (first : ℕ) → Agrees plan (found_from inputs (numbers_from first tree) tree) first (first + node_count tree) → LooksUp inputs plan (numbers_from first tree) tree
looks_up inputs plan (Input index) first h = h first (omega arith) (omega arith) ∙ entry-at first (found_interval inputs (Input index))
looks_up inputs plan (Cast e t o) first h =
    let a = found_from inputs (numbers_from first e) e in
    let i = found_interval inputs (Cast e t o) in
    (looks_up inputs plan e first (inner_agrees plan a first (node_count e) i h), entry_agrees plan a first (node_count e) i h (found-ends inputs e first))
looks_up inputs plan (Binary op l r) first h =
    let a = found_from inputs (numbers_from first l) l in
    let m = first + node_count l in
    let b = found_from inputs (numbers_from m r) r in
    let i = found_interval inputs (Binary op l r) in
    let R = one_more b m (m + node_count r) i (omega arith) (found-between inputs r m) in
    let left : Agrees plan a first (first + node_count l) =
    λ n le lt. h n le (omega arith) ∙ before_second a (b ++ entry_for (m + node_count r) i) n m lt R.starts in
    let right : Agrees plan (b ++ entry_for (m + node_count r) i) m (m + (node_count r + 1)) =
    λ n le lt. h n (omega arith) (omega arith) ∙ past_first a (b ++ entry_for (m + node_count r) i) n (ends-more a m n le (found-ends inputs l first)) in (
      looks_up inputs plan l first left,
      (looks_up inputs plan r m (inner_agrees plan b m (node_count r) i right), entry_agrees plan b m (node_count r) i right (found-ends inputs r m)),
    )
looks_up inputs plan (ScalarRight e op k) first h =
    let a = found_from inputs (numbers_from first e) e in
    let i = found_interval inputs (ScalarRight e op k) in
    (looks_up inputs plan e first (inner_agrees plan a first (node_count e) i h), entry_agrees plan a first (node_count e) i h (found-ends inputs e first))
looks_up inputs plan (ScalarLeft k op e) first h =
    let a = found_from inputs (numbers_from first e) e in
    let i = found_interval inputs (ScalarLeft k op e) in
    (looks_up inputs plan e first (inner_agrees plan a first (node_count e) i h), entry_agrees plan a first (node_count e) i h (found-ends inputs e first))
looks_up inputs plan (InUnit e u) first h =
    let a = found_from inputs (numbers_from first e) e in
    let i = found_interval inputs (InUnit e u) in
    (looks_up inputs plan e first (inner_agrees plan a first (node_count e) i h), entry_agrees plan a first (node_count e) i h (found-ends inputs e first))
looks_up inputs plan (Shift e p) first h =
    let a = found_from inputs (numbers_from first e) e in
    let i = found_interval inputs (Shift e p) in
    (looks_up inputs plan e first (inner_agrees plan a first (node_count e) i h), entry_agrees plan a first (node_count e) i h (found-ends inputs e first))

-- ---- a node keeps what is found for it

-- what fits is an interval with an integer, in the values of the type
fitting_there : (dtype : Option DataType) (o : Option Interval) (range : Interval) → fitting dtype o ≡ Some range → (o ≡ Some range) × (fits_type dtype range ≡ true) × (int_le range.low range.high ≡ true)
fitting_there dtype None range e = cc
fitting_there dtype (Some p) range e = by_test (is_fit dtype p) refl e
  where
    by_test : (b : Bool) → is_fit dtype p ≡ b → (if b then Some p else None) ≡ Some range → (Some p ≡ Some range) × (fits_type dtype range ≡ true) × (int_le range.low range.high ≡ true)
    by_test true h e =
        let same : p ≡ range = cc in
        let parts = and_parts (fits_type dtype p) (int_le p.low p.high) h in
        (e, ap (fits_type dtype) (sym same) ∙ parts.0, ap (λ (q : Interval). int_le q.low q.high) (sym same) ∙ parts.1)
    by_test false h e = cc

-- the rule of a node that has the interval that is found, by what that interval was made of
keeps_found : (inputs : List Column) (plan : Plan) (numbers : Numbers) (tree : Tree) (image : Option Interval) → interval_in plan (number_at numbers) ≡ fitting (dtype_of inputs tree) image
    → ((range : Interval) → image ≡ Some range → int_le range.low range.high ≡ true → is_kept_within inputs plan numbers tree range ≡ true) → rule_holds inputs plan numbers tree ≡ true
keeps_found inputs plan numbers tree image at keeps = ap (keeps_rule inputs plan numbers tree) at ∙ go (fitting (dtype_of inputs tree) image) refl
  where
    go : (o : Option Interval) → fitting (dtype_of inputs tree) image ≡ o → keeps_rule inputs plan numbers tree o ≡ true
    go None e = refl
    go (Some range) e =
        let t = fitting_there (dtype_of inputs tree) image range e in
        and_from _ _ t.1 (keeps range t.0 t.2)

-- the bound of an operand, by what is found for it
bound-found : (inputs : List Column) (plan : Plan) (numbers : Numbers) (tree : Tree) → LooksUp inputs plan numbers tree → bound_of inputs plan numbers tree ≡ bound_by (found_interval inputs tree) (dtype_of inputs tree)
bound-found inputs plan numbers tree h = ap (λ o. bound_by o (dtype_of inputs tree)) (root_at inputs plan numbers tree h)

image_keeps : (image : Option Interval) (range : Interval) → image ≡ Some range → int_le range.low range.high ≡ true → is_image_inside range image ≡ true
image_keeps image range e h = ap (is_image_inside range) e ∙ inside_itself range h

-- ---- the induction

found_rules : (inputs : List Column) (plan : Plan) → All IsValidColumn inputs → (tree : Tree) (numbers : Numbers) → LooksUp inputs plan numbers tree → rules_hold inputs plan numbers tree ≡ true
found_rules inputs plan all (Input index) numbers h =
    keeps_found inputs plan numbers (Input index) (spanned_by (slice_get inputs index)) h (column_holds inputs all index)
found_rules inputs plan all (Cast e t o) numbers h =
    let bound = bound-found inputs plan (below numbers) e h.0 in
    let f = formula_for inputs (Cast e t o) in
    and_from _ _ (found_rules inputs plan all e (below numbers) h.0)
    (keeps_found inputs plan numbers (Cast e t o) (image_by f (bound_by (found_interval inputs e) (dtype_of inputs e)) (bound_by (found_interval inputs e) (dtype_of inputs e))) h.1
    (λ range is ordered. image_keeps (image_of inputs plan numbers (Cast e t o)) range (ap (λ b. image_by f b b) bound ∙ is) ordered))
found_rules inputs plan all (Binary op l r) numbers h =
    let left = bound-found inputs plan (left_of numbers) l h.0 in
    let right = bound-found inputs plan (right_of numbers) r h.1.0 in
    let f = formula_for inputs (Binary op l r) in
    and_from _ _ (found_rules inputs plan all l (left_of numbers) h.0) (and_from _ _ (found_rules inputs plan all r (right_of numbers) h.1.0)
    (keeps_found inputs plan numbers (Binary op l r) (image_by f (bound_by (found_interval inputs l) (dtype_of inputs l)) (bound_by (found_interval inputs r) (dtype_of inputs r))) h.1.1
    (λ range is ordered. image_keeps (image_of inputs plan numbers (Binary op l r)) range
    (ap (λ b. image_by f b (bound_of inputs plan (right_of numbers) r)) left ∙ ap (image_by f (bound_by (found_interval inputs l) (dtype_of inputs l))) right ∙ is) ordered)))
found_rules inputs plan all (ScalarRight e op k) numbers h =
    let bound = bound-found inputs plan (below numbers) e h.0 in
    let f = formula_for inputs (ScalarRight e op k) in
    and_from _ _ (found_rules inputs plan all e (below numbers) h.0)
    (keeps_found inputs plan numbers (ScalarRight e op k) (image_by f (bound_by (found_interval inputs e) (dtype_of inputs e)) (bound_by (found_interval inputs e) (dtype_of inputs e))) h.1
    (λ range is ordered. image_keeps (image_of inputs plan numbers (ScalarRight e op k)) range (ap (λ b. image_by f b b) bound ∙ is) ordered))
found_rules inputs plan all (ScalarLeft k op e) numbers h =
    let bound = bound-found inputs plan (below numbers) e h.0 in
    let f = formula_for inputs (ScalarLeft k op e) in
    and_from _ _ (found_rules inputs plan all e (below numbers) h.0)
    (keeps_found inputs plan numbers (ScalarLeft k op e) (image_by f (bound_by (found_interval inputs e) (dtype_of inputs e)) (bound_by (found_interval inputs e) (dtype_of inputs e))) h.1
    (λ range is ordered. image_keeps (image_of inputs plan numbers (ScalarLeft k op e)) range (ap (λ b. image_by f b b) bound ∙ is) ordered))
found_rules inputs plan all (InUnit e u) numbers h =
    let bound = bound-found inputs plan (below numbers) e h.0 in
    let f = formula_for inputs (InUnit e u) in
    and_from _ _ (found_rules inputs plan all e (below numbers) h.0)
    (keeps_found inputs plan numbers (InUnit e u) (image_by f (bound_by (found_interval inputs e) (dtype_of inputs e)) (bound_by (found_interval inputs e) (dtype_of inputs e))) h.1
    (λ range is ordered. image_keeps (image_of inputs plan numbers (InUnit e u)) range (ap (λ b. image_by f b b) bound ∙ is) ordered))
found_rules inputs plan all (Shift e p) numbers h =
    let bound = bound-found inputs plan (below numbers) e h.0 in
    and_from _ _ (found_rules inputs plan all e (below numbers) h.0)
    (keeps_found inputs plan numbers (Shift e p) (bound_by (found_interval inputs e) (dtype_of inputs e)) h.1
    (λ range is ordered. image_keeps (image_of inputs plan numbers (Shift e p)) range (bound ∙ is) ordered))

pub found_plans_are_valid : FoundPlansAreValid
found_plans_are_valid inputs tree all =
    let plan = found_plan inputs tree in
    let ends : ends_before plan (node_count tree) ≡ true = ap (ends_before plan) (sym (zero-add (node_count tree))) ∙ found-ends inputs tree 0 in
    and_from _ _ (found_rules inputs plan all tree (numbers_from 0 tree) (looks_up inputs plan tree 0 (λ n le lt. refl))) ends
