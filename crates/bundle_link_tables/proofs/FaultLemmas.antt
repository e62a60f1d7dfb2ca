-- The fault that is told is the first of the tree.
use Rattle.std.proofs.Common.{◌≡◌, ℕ, zero, suc, ◌<◌, ◌≤◌, ◌⊎◌, Bool, true, false, not, ◌||◌, IsTrue, List, [], ◌∷◌, ◌++◌, Option, Some, None, find, map, length, ◌==◌, slice_get, cond, eqb-true, refl, sym, ap, ◌∙◌, subst, inl, inr, arith, bytes_eq}
use Rattle.std.specs.Prelude.{if◌then◌else◌, filter, MatchOption, option_map}
use Rattle.std.proofs.lemmas.Bool.{false≢true, both_ways, or_cases, or_left, or_right, not-true, not_from_false}
use Rattle.std.proofs.lemmas.Option.{none-some, same_Some}
use Rattle.std.proofs.lemmas.List.Folds.{list_any-append}
use Rattle.std.proofs.lemmas.Slice.Eq.{bytes_eq-Decides}
use Rattle.bundle_tree_names.specs.FileName.{Name}
use Rattle.bundle_syntax.specs.Item as h
use Rattle.bundle_syntax.specs.Item.{Item, Head}
use Rattle.bundle_rules.specs.Nodes.{Text, has_text, has_head}
use Rattle.bundle_rules.specs.Bundle.{is_with}
use Rattle.bundle_rules.specs.Bound.{top_names}
use Rattle.bundle_rules.specs.Entries.{ExportEntry, Local, Indirect, Star, exports_of}
use Rattle.bundle_rules.specs.Tables.{is_star}
use Rattle.bundle_rules.specs.Faults as t
use Rattle.bundle_rules.specs.Faults.{Fault, ListedName, entry_name, listed_names, TreeFault, doubled_export, undeclared_export, with_statement, NotAfter, earlier_stage, same_stage, IsFirstTreeFault, IsFaultless}
use Rattle.bundle_link_tables.specs.Judged.{doubled_entry_name, is_undeclared, is_top_name, undeclared_name, first_fault}

-- Doubled names.

-- an entry before a place has the name
abbrev Earlier : List ExportEntry → ℕ → Text → Type 0
Earlier es l x = (i : ℕ) × (first : ExportEntry) × (i < l) × (slice_get es i ≡ Some first) × (entry_name first ≡ Some x)

-- the entry at a place has a name that one before it has, or that was met
abbrev IsDoubledAt : List Text → List ExportEntry → ℕ → Text → Type 0
IsDoubledAt met es l x = (entry : ExportEntry) × (slice_get es l ≡ Some entry) × (entry_name entry ≡ Some x) × ((has_text x met ≡ true) ⊎ Earlier es l x)

-- what is told of doubled names
abbrev TellsDoubled : List Text → List ExportEntry → Option Text → Type 0
TellsDoubled met es None = (l : ℕ) (x : Text) → IsDoubledAt met es l x → ⊥
TellsDoubled met es (Some x) = (j : ℕ) × IsDoubledAt met es j x × ((l : ℕ) (y : Text) → IsDoubledAt met es l y → j ≤ l)

pub same_texts : (x y : Text) → bytes_eq x y ≡ true → x ≡ y
same_texts x y is = (bytes_eq-Decides x y).0 is

has_last : (met : List Text) (x : Text) → has_text x (met ++ x ∷ []) ≡ true
has_last met x = list_any-append (bytes_eq x) met (x ∷ []) ∙ or_right (has_text x met) (bytes_eq x x || false) (or_left (bytes_eq x x) false ((bytes_eq-Decides x x).1 refl))

has_more : (met : List Text) (x y : Text) → has_text y met ≡ true → has_text y (met ++ x ∷ []) ≡ true
has_more met x y is = list_any-append (bytes_eq y) met (x ∷ []) ∙ or_left (has_text y met) (bytes_eq y x || false) is

met_or_last : (met : List Text) (x y : Text) → has_text y (met ++ x ∷ []) ≡ true → (has_text y met ≡ true) ⊎ (y ≡ x)
met_or_last met x y is = by (or_cases (has_text y met) (bytes_eq y x || false) (sym (list_any-append (bytes_eq y) met (x ∷ [])) ∙ is))
  where
    last : (bytes_eq y x ≡ true) ⊎ (false ≡ true) → y ≡ x
    last (inl same) = same_texts y x same
    last (inr wrong) = absurd (false≢true wrong)

    by : (has_text y met ≡ true) ⊎ ((bytes_eq y x || false) ≡ true) → (has_text y met ≡ true) ⊎ (y ≡ x)
    by (inl known) = inl known
    by (inr same) = inr (last (or_cases (bytes_eq y x) false same))

-- behind an entry that has no name
module _ (met : List Text) (entry : ExportEntry) (rest : List ExportEntry) (nameless : entry_name entry ≡ None) where
  nameless_in : (l : ℕ) (y : Text) → IsDoubledAt met rest l y → IsDoubledAt met (entry ∷ rest) (suc l) y
  nameless_in l y it = (it.0, it.1, it.2, by it.3)
    where
      by : (has_text y met ≡ true) ⊎ Earlier rest l y → (has_text y met ≡ true) ⊎ Earlier (entry ∷ rest) (suc l) y
      by (inl known) = inl known
      by (inr one) = inr (suc one.0, one.1, omega (arith, one.2), one.3, one.4)

  nameless_out : (l : ℕ) (y : Text) → IsDoubledAt met (entry ∷ rest) l y → (k : ℕ) × (l ≡ suc k) × IsDoubledAt met rest k y
  nameless_out zero y it = absurd (none-some y (sym nameless ∙ ap entry_name (same_Some entry it.0 it.1) ∙ it.2))
  nameless_out (suc l) y it = (l, refl, (it.0, it.1, it.2, by it.3))
    where
      earlier : (i : ℕ) (first : ExportEntry) → i < suc l → slice_get (entry ∷ rest) i ≡ Some first → entry_name first ≡ Some y → Earlier rest l y
      earlier zero first lt at named = absurd (none-some y (sym nameless ∙ ap entry_name (same_Some entry first at) ∙ named))
      earlier (suc i) first lt at named = (i, first, omega (arith, lt), at, named)

      by : (has_text y met ≡ true) ⊎ Earlier (entry ∷ rest) (suc l) y → (has_text y met ≡ true) ⊎ Earlier rest l y
      by (inl known) = inl known
      by (inr one) = inr (earlier one.0 one.1 one.2 one.3 one.4)

  nameless_told : (told : Option Text) → TellsDoubled met rest told → TellsDoubled met (entry ∷ rest) told
  nameless_told None none = λ l y it. let out = nameless_out l y it in none out.0 y out.2
  nameless_told (Some x) one =
      (suc one.0, nameless_in one.0 x one.1, λ l y it. let out = nameless_out l y it in let least = one.2 out.0 y out.2 in omega (arith, least, out.1))

-- behind an entry with a name that was not met
module _ (met : List Text) (entry : ExportEntry) (rest : List ExportEntry) (x : Text) (named : entry_name entry ≡ Some x) (new : has_text x met ≡ false) where
  named_in : (l : ℕ) (y : Text) → IsDoubledAt (met ++ x ∷ []) rest l y → IsDoubledAt met (entry ∷ rest) (suc l) y
  named_in l y it = (it.0, it.1, it.2, by it.3)
    where
      known_by : (has_text y met ≡ true) ⊎ (y ≡ x) → (has_text y met ≡ true) ⊎ Earlier (entry ∷ rest) (suc l) y
      known_by (inl known) = inl known
      known_by (inr same) = inr (zero, entry, omega arith, refl, named ∙ ap (λ (z : Text). Some z) (sym same))

      by : (has_text y (met ++ x ∷ []) ≡ true) ⊎ Earlier rest l y → (has_text y met ≡ true) ⊎ Earlier (entry ∷ rest) (suc l) y
      by (inl known) = known_by (met_or_last met x y known)
      by (inr one) = inr (suc one.0, one.1, omega (arith, one.2), one.3, one.4)

  named_out : (l : ℕ) (y : Text) → IsDoubledAt met (entry ∷ rest) l y → (k : ℕ) × (l ≡ suc k) × IsDoubledAt (met ++ x ∷ []) rest k y
  named_out zero y it = absurd (by it.3)
    where
      same : y ≡ x
      same = same_Some y x (sym it.2 ∙ ap entry_name (sym (same_Some entry it.0 it.1)) ∙ named)

      by : (has_text y met ≡ true) ⊎ Earlier (entry ∷ rest) zero y → ⊥
      by (inl known) = false≢true (sym new ∙ ap (λ z. has_text z met) (sym same) ∙ known)
      by (inr one) = omega (arith, one.2)
  named_out (suc l) y it = (l, refl, (it.0, it.1, it.2, by it.3))
    where
      earlier : (i : ℕ) (first : ExportEntry) → i < suc l → slice_get (entry ∷ rest) i ≡ Some first → entry_name first ≡ Some y → (has_text y (met ++ x ∷ []) ≡ true) ⊎ Earlier rest l y
      earlier zero first lt at its =
          let same : x ≡ y = same_Some x y (sym named ∙ ap entry_name (same_Some entry first at) ∙ its) in
          inl (subst (λ z. has_text z (met ++ x ∷ []) ≡ true) same (has_last met x))
      earlier (suc i) first lt at its = inr (i, first, omega (arith, lt), at, its)

      by : (has_text y met ≡ true) ⊎ Earlier (entry ∷ rest) (suc l) y → (has_text y (met ++ x ∷ []) ≡ true) ⊎ Earlier rest l y
      by (inl known) = inl (has_more met x y known)
      by (inr one) = earlier one.0 one.1 one.2 one.3 one.4

  named_told : (told : Option Text) → TellsDoubled (met ++ x ∷ []) rest told → TellsDoubled met (entry ∷ rest) told
  named_told None none = λ l y it. let out = named_out l y it in none out.0 y out.2
  named_told (Some z) one =
      (suc one.0, named_in one.0 z one.1, λ l y it. let out = named_out l y it in let least = one.2 out.0 y out.2 in omega (arith, least, out.1))

tells_doubled : (met : List Text) (es : List ExportEntry) → TellsDoubled met es (doubled_entry_name met es)
tells_doubled met [] = λ l x it. none-some it.0 it.1
tells_doubled met (entry ∷ rest) = by (entry_name entry) refl (tells_doubled met rest) (λ x. tells_doubled (met ++ x ∷ []) rest)
  where
    by : (name : Option Text) → entry_name entry ≡ name → TellsDoubled met rest (doubled_entry_name met rest) → ((x : Text) → TellsDoubled (met ++ x ∷ []) rest (doubled_entry_name (met ++ x ∷ []) rest)) → TellsDoubled met (entry ∷ rest) (elim name [ None ↦ doubled_entry_name met rest | Some x ↦ if has_text x met then Some x else doubled_entry_name (met ++ x ∷ []) rest ])
    by None is same more = nameless_told met entry rest is (doubled_entry_name met rest) same
    by (Some x) is same more = known (has_text x met) refl
      where
        known : (b : Bool) → has_text x met ≡ b → TellsDoubled met (entry ∷ rest) (if b then Some x else doubled_entry_name (met ++ x ∷ []) rest)
        known true there = (zero, (entry, refl, is, inl there), λ l y it. omega arith)
        known false there = named_told met entry rest x is there (doubled_entry_name (met ++ x ∷ []) rest) (more x)

-- stars have no name
pub doubled_filter : (met : List Text) (es : List ExportEntry) → doubled_entry_name met (filter (λ entry. not (is_star entry)) es) ≡ doubled_entry_name met es
doubled_filter met [] = refl
doubled_filter met (Local name of ∷ es) = ap (λ o. if has_text name met then Some name else o) (doubled_filter (met ++ name ∷ []) es)
doubled_filter met (Indirect name specifier taken ∷ es) = ap (λ o. if has_text name met then Some name else o) (doubled_filter (met ++ name ∷ []) es)
doubled_filter met (Star specifier ∷ es) = doubled_filter met es

-- What a search finds.

abbrev TellsFirst : {X : Type 0} → (X → Bool) → List X → Option X → Type 0
TellsFirst {X} p xs None = (l : ℕ) (x : X) → slice_get xs l ≡ Some x → p x ≡ true → ⊥
TellsFirst {X} p xs (Some it) = (j : ℕ) × (slice_get xs j ≡ Some it) × (p it ≡ true) × ((l : ℕ) (x : X) → slice_get xs l ≡ Some x → p x ≡ true → j ≤ l)

tells_first : {X : Type 0} (p : X → Bool) (xs : List X) → TellsFirst p xs (find p xs)
tells_first p [] = λ l x at is. none-some x at
tells_first {X} p (first ∷ xs) = by (p first) refl (find p xs) (tells_first p xs)
  where
    none : p first ≡ false → ((l : ℕ) (x : X) → slice_get xs l ≡ Some x → p x ≡ true → ⊥) → (l : ℕ) (x : X) → slice_get (first ∷ xs) l ≡ Some x → p x ≡ true → ⊥
    none is others zero x at its = both_ways (p first) is (ap p (same_Some first x at) ∙ its)
    none is others (suc l) x at its = others l x at its

    least : p first ≡ false → (j : ℕ) → ((l : ℕ) (x : X) → slice_get xs l ≡ Some x → p x ≡ true → j ≤ l) → (l : ℕ) (x : X) → slice_get (first ∷ xs) l ≡ Some x → p x ≡ true → suc j ≤ l
    least is j others zero x at its = absurd (both_ways (p first) is (ap p (same_Some first x at) ∙ its))
    least is j others (suc l) x at its = let low = others l x at its in omega (arith, low)

    by : (b : Bool) → p first ≡ b → (later : Option X) → TellsFirst p xs later → TellsFirst p (first ∷ xs) (cond b (Some first) later)
    by true is later told = (zero, refl, is, λ l x at its. omega arith)
    by false is None told = none is told
    by false is (Some it) told = (suc told.0, told.1, told.2, least is told.0 told.3)

-- what is declared may be told in two ways
pub undeclared_alike : (one other : Text → Bool) → ((x : Text) → one x ≡ other x) → (listed : List ListedName) → undeclared_name one listed ≡ undeclared_name other listed
undeclared_alike one other same listed = ap (option_map (λ (name : ListedName). name.text)) (found listed)
  where
    found : (names : List ListedName) → find (is_undeclared one) names ≡ find (is_undeclared other) names
    found [] = refl
    found (name ∷ names) = ap (λ b. cond (name.is_string || not b) (Some name) (find (is_undeclared one) names)) (same name.text) ∙ ap (λ later. cond (is_undeclared other name) (Some name) later) (found names)

-- of no names none is undeclared
pub undeclared_empty : {A : Type 0} (as_listed : A → ListedName) (declared : Text → Bool) (listed : List A) → (length listed == 0) ≡ true
    → None ≡ undeclared_name declared (map as_listed listed)
undeclared_empty as_listed declared [] none = refl
undeclared_empty as_listed declared (name ∷ names) none = absurd (omega (arith, eqb-true (length (name ∷ names)) 0 none))

-- `with` statements.

is_with_head : (head : Head) → is_with head ≡ true → head ≡ h.WithStmt
is_with_head h.WithStmt is = refl
is_with_head _ is = absurd (false≢true is)

-- such a statement stands at a place
abbrev HasWithAt : List Item → ℕ → Type 0
HasWithAt tree place = (field : ℕ) × (slice_get tree place ≡ Some (h.Open field h.WithStmt))

abbrev TellsWith : List Item → Bool → Type 0
TellsWith tree true = (place : ℕ) × HasWithAt tree place × ((l : ℕ) → HasWithAt tree l → place ≤ l)
TellsWith tree false = (l : ℕ) → HasWithAt tree l → ⊥

with_behind : (item : Item) (rest : List Item) (told : Bool) → ((field : ℕ) → item ≡ h.Open field h.WithStmt → ⊥) → TellsWith rest told → TellsWith (item ∷ rest) told
with_behind item rest true other known = (suc known.0, known.1, least)
  where
    least : (l : ℕ) → HasWithAt (item ∷ rest) l → suc known.0 ≤ l
    least zero there = absurd (other there.0 (same_Some item (h.Open there.0 h.WithStmt) there.1))
    least (suc l) there = let low = known.2 l there in omega (arith, low)
with_behind item rest false other known = none
  where
    none : (l : ℕ) → HasWithAt (item ∷ rest) l → ⊥
    none zero there = other there.0 (same_Some item (h.Open there.0 h.WithStmt) there.1)
    none (suc l) there = known l there

tells_with : (tree : List Item) → TellsWith tree (has_head is_with tree)
tells_with [] = λ l there. none-some (h.Open there.0 h.WithStmt) there.1
tells_with (h.Open field head ∷ rest) = by (is_with head) refl (tells_with rest)
  where
    other : is_with head ≡ false → (f : ℕ) → h.Open field head ≡ h.Open f h.WithStmt → ⊥
    other is f same = both_ways (is_with head) is (let heads : head ≡ h.WithStmt = cc in ap is_with heads)

    by : (b : Bool) → is_with head ≡ b → TellsWith rest (has_head is_with rest) → TellsWith (h.Open field head ∷ rest) (elim b [ true ↦ true | false ↦ has_head is_with rest ])
    by true is known = (zero, (field, ap (λ (x : Head). Some (h.Open field x)) (is_with_head head is)), λ l there. omega arith)
    by false is known = with_behind (h.Open field head) rest (has_head is_with rest) (other is) known
tells_with (h.Ident field symbol ctxt role ∷ rest) = with_behind (h.Ident field symbol ctxt role) rest (has_head is_with rest) (λ f same. cc) (tells_with rest)
tells_with (h.Hole field ∷ rest) = with_behind (h.Hole field) rest (has_head is_with rest) (λ f same. cc) (tells_with rest)
tells_with (h.Close ∷ rest) = with_behind h.Close rest (has_head is_with rest) (λ f same. cc) (tells_with rest)

-- The first of all.

module _ (file : Name) (tree : List Item) where
  -- a doubled export is one that is told
  doubled_at : (i j : ℕ) (x : Text) (first second : ExportEntry) → i < j → slice_get (exports_of tree) i ≡ Some first → slice_get (exports_of tree) j ≡ Some second → entry_name first ≡ Some x → entry_name second ≡ Some x → IsDoubledAt [] (exports_of tree) j x
  doubled_at i j x first second lt a b c d = (second, b, d, inr (i, first, lt, a, c))

  undeclared_true : (listed : ListedName) → IsTrue listed.is_string ⊎ (has_text listed.text (top_names tree) ≡ false) → is_undeclared (is_top_name tree) listed ≡ true
  undeclared_true listed (inl is) = or_left listed.is_string (not (has_text listed.text (top_names tree))) is
  undeclared_true listed (inr is) = or_right listed.is_string (not (has_text listed.text (top_names tree))) (not_from_false (has_text listed.text (top_names tree)) is)

  undeclared_by : (listed : ListedName) → is_undeclared (is_top_name tree) listed ≡ true → IsTrue listed.is_string ⊎ (has_text listed.text (top_names tree) ≡ false)
  undeclared_by listed is = by (or_cases listed.is_string (not (has_text listed.text (top_names tree))) is)
    where
      by : (listed.is_string ≡ true) ⊎ (not (has_text listed.text (top_names tree)) ≡ true) → IsTrue listed.is_string ⊎ (has_text listed.text (top_names tree) ≡ false)
      by (inl here) = inl here
      by (inr here) = inr (not-true (has_text listed.text (top_names tree)) here)

  -- the first is a doubled export
  by_doubled : (x : Text) → TellsDoubled [] (exports_of tree) (Some x) → IsFirstTreeFault file tree (t.DoubledExport file x)
  by_doubled x it = record { stage = 0; place = it.0; there = there it.1.3; first = first }
    where
      there : (has_text x [] ≡ true) ⊎ Earlier (exports_of tree) it.0 x → TreeFault file tree 0 it.0 (t.DoubledExport file x)
      there (inl wrong) = absurd (false≢true wrong)
      there (inr one) = doubled_export one.1 it.1.0 one.2 one.3 it.1.1 one.4 it.1.2

      first : (other its : ℕ) (f : Fault) → TreeFault file tree other its f → NotAfter 0 it.0 other its
      first _ _ _ (doubled_export {i} {j} {x = y} one two lt a b c d) = same_stage (it.2 j y (doubled_at i j y one two lt a b c d))
      first _ _ _ (undeclared_export listed at is) = earlier_stage (omega arith)
      first _ _ _ (with_statement at) = earlier_stage (omega arith)

  -- no name is doubled, and the first is a name that is not declared
  by_undeclared : TellsDoubled [] (exports_of tree) None → (listed : ListedName) → TellsFirst (is_undeclared (is_top_name tree)) (listed_names tree) (Some listed) → IsFirstTreeFault file tree (t.UndeclaredExport file listed.text)
  by_undeclared none listed it = record { stage = 1; place = it.0; there = undeclared_export listed it.1 (undeclared_by listed it.2); first = first }
    where
      first : (other its : ℕ) (f : Fault) → TreeFault file tree other its f → NotAfter 1 it.0 other its
      first _ _ _ (doubled_export {i} {j} {x = y} one two lt a b c d) = absurd (none j y (doubled_at i j y one two lt a b c d))
      first _ _ _ (undeclared_export {j} other at is) = same_stage (it.3 j other at (undeclared_true other is))
      first _ _ _ (with_statement at) = earlier_stage (omega arith)

  -- the first is a `with` statement
  by_with : TellsDoubled [] (exports_of tree) None → TellsFirst (is_undeclared (is_top_name tree)) (listed_names tree) None → TellsWith tree true → IsFirstTreeFault file tree (t.WithStatement file)
  by_with none declared it = record { stage = 2; place = it.0; there = with_statement it.1.1; first = first }
    where
      first : (other its : ℕ) (f : Fault) → TreeFault file tree other its f → NotAfter 2 it.0 other its
      first _ _ _ (doubled_export {i} {j} {x = y} one two lt a b c d) = absurd (none j y (doubled_at i j y one two lt a b c d))
      first _ _ _ (undeclared_export {j} other at is) = absurd (declared j other at (undeclared_true other is))
      first _ _ _ (with_statement {place} {field} at) = same_stage (it.2 place (field, at))

  -- there is none
  by_none : TellsDoubled [] (exports_of tree) None → TellsFirst (is_undeclared (is_top_name tree)) (listed_names tree) None → TellsWith tree false → IsFaultless file tree
  by_none none declared without = faultless
    where
      faultless : (stage place : ℕ) (f : Fault) → TreeFault file tree stage place f → ⊥
      faultless _ _ _ (doubled_export {i} {j} {x = y} one two lt a b c d) = none j y (doubled_at i j y one two lt a b c d)
      faultless _ _ _ (undeclared_export {j} other at is) = declared j other at (undeclared_true other is)
      faultless _ _ _ (with_statement {place} {field} at) = without place (field, at)

  -- what is told is the first fault, or that there is none
  pub judged : MatchOption (first_fault file (doubled_entry_name [] (exports_of tree)) (undeclared_name (is_top_name tree) (listed_names tree)) (has_head is_with tree)) (IsFaultless file tree) (IsFirstTreeFault file tree)
  judged = by (doubled_entry_name [] (exports_of tree)) (tells_doubled [] (exports_of tree)) (find (is_undeclared (is_top_name tree)) (listed_names tree)) (tells_first (is_undeclared (is_top_name tree)) (listed_names tree)) (has_head is_with tree) (tells_with tree)
    where
      by : (doubled : Option Text) → TellsDoubled [] (exports_of tree) doubled → (listed : Option ListedName) → TellsFirst (is_undeclared (is_top_name tree)) (listed_names tree) listed → (has_with : Bool) → TellsWith tree has_with → MatchOption (first_fault file doubled (option_map (λ (name : ListedName). name.text) listed) has_with) (IsFaultless file tree) (IsFirstTreeFault file tree)
      by (Some x) a listed b has_with c = by_doubled x a
      by None a (Some listed) b has_with c = by_undeclared a listed b
      by None a None b true c = by_with a b c
      by None a None b false c = by_none a b c

-- a tree without faults exports no name twice
pub faultless_once : (file : Name) (tree : List Item) → IsFaultless file tree → doubled_entry_name [] (exports_of tree) ≡ None
faultless_once file tree faultless = by (doubled_entry_name [] (exports_of tree)) (tells_doubled [] (exports_of tree)) refl
  where
    by : (told : Option Text) → TellsDoubled [] (exports_of tree) told → doubled_entry_name [] (exports_of tree) ≡ told → doubled_entry_name [] (exports_of tree) ≡ None
    by None it is = is
    by (Some x) it is = let first = by_doubled file tree x it in absurd (faultless first.stage first.place (t.DoubledExport file x) first.there)
