-- The first fault of modules, from what linking tells and what is noted of them.
use Rattle.std.proofs.Common.{◌≡◌, ℕ, zero, suc, ◌+◌, ◌<◌, inl, inr, Bool, true, false, List, [], ◌∷◌, ◌++◌, Option, Some, None, Contains, length, refl, sym, ap, ◌∙◌, subst, arith}
use Rattle.std.specs.Prelude.{slice_get, option_map}
use Rattle.std.proofs.lemmas.Bool.{cases_lt, false≢true}
use Rattle.std.proofs.lemmas.Option.{none-some, same_Some}
use Rattle.bundle_syntax.specs.Item.{Item}
use Rattle.bundle_rules.specs.Scopes.{ModuleKind, Es, Cjs}
use Rattle.bundle_rules.specs.Declarations.{Declared}
use Rattle.bundle_rules.specs.Doubled.{first_doubled}
use Rattle.bundle_scope_denote.specs.Listed.{place_and_symbol, doubled_told}
use Rattle.bundle_scope_denote.specs.declared.table.Doubled.{Doubled}
use Rattle.bundle_tree_names.specs.FileName.{real}
use Rattle.bundle_rules.specs.Statements.{Element, written, own_statements, default_name}
use Rattle.bundle_rules.specs.Entries.{import_of, imports_of}
use Rattle.bundle_rules.specs.Program.{Program, tree_of}
use Rattle.bundle_rules.specs.Tables.{TellsCommonJs}
use Rattle.bundle_rules.specs.Meaning.{HasKind, is_es, is_common_js}
use Rattle.bundle_rules.specs.Faults.{DoubledDeclaration, doubled_declaration}
use Rattle.bundle_link.proofs.DefaultLemmas.{script-unwritten}
use Rattle.bundle_link_targets.specs.Judged.{IsStageJudged}
use Rattle.bundle_link_targets.specs.Meant.{AreModules}
use Rattle.bundle_link_targets.specs.declared.target.LinkFault.{LinkFault as Found}
use Rattle.bundle_link.specs.First.{HasNoFault, IsFirstOf}
use Rattle.bundle_link.proofs.PlacedLemmas.{calls_first, doubled_first, links_first, none_of_all}
use Rattle.bundle_link.specs.Judged.{numbers_below, HasNoDoubled, IsFirstDoubled, AreTreesReadable, TellsDoubled, TellsFirstFault}
use Rattle.bundle_link.specs.declared.judging.ModuleFault.{ModuleFault}
use Rattle.bundle_link.specs.declared.judging.ModuleFault.TheVariants as t

-- ---- the numbers below one
long : (n : ℕ) → length (numbers_below n) ≡ n
long zero = refl
long (suc n) = longer (numbers_below n) n ∙ ap suc (long n)
  where
    longer : (xs : List ℕ) (x : ℕ) → length (xs ++ x ∷ []) ≡ suc (length xs)
    longer [] x = refl
    longer (y ∷ xs) x = ap suc (longer xs x)

before_end : (xs : List ℕ) (x i : ℕ) → i < length xs → slice_get (xs ++ x ∷ []) i ≡ slice_get xs i
before_end [] x i within = absurd (omega (arith, within))
before_end (y ∷ xs) x zero within = refl
before_end (y ∷ xs) x (suc i) within = before_end xs x i (omega (arith, within))

at_end : (xs : List ℕ) (x i : ℕ) → i ≡ length xs → slice_get (xs ++ x ∷ []) i ≡ Some x
at_end [] x i is = ap (slice_get (x ∷ [])) is
at_end (y ∷ xs) x zero is = absurd (omega (arith, is))
at_end (y ∷ xs) x (suc i) is = at_end xs x i (omega (arith, is))

past_end : (xs : List ℕ) (x i : ℕ) → length xs < i → slice_get (xs ++ x ∷ []) i ≡ None
past_end [] x zero past = absurd (omega (arith, past))
past_end [] x (suc i) past = refl
past_end (y ∷ xs) x zero past = absurd (omega (arith, past))
past_end (y ∷ xs) x (suc i) past = past_end xs x i (omega (arith, past))

pub all_below : (n j : ℕ) → j < n → slice_get (numbers_below n) j ≡ Some j
all_below zero j below = absurd (omega (arith, below))
all_below (suc n) j below = elim (cases_lt j n) [
  | inl less ↦ before_end (numbers_below n) n j (omega (arith, less, long n)) ∙ all_below n j less
  | inr least ↦ let e : j ≡ n = omega (arith, below, least) in at_end (numbers_below n) n j (e ∙ sym (long n)) ∙ ap (λ k. Some k) (sym e)
]

pub only_below : (n j m : ℕ) → slice_get (numbers_below n) j ≡ Some m → (m ≡ j) × (j < n)
only_below zero j m at = absurd (none-some m at)
only_below (suc n) j m at = elim (cases_lt j n) [
  | inl less ↦ let r = only_below n j m (sym (before_end (numbers_below n) n j (omega (arith, less, long n))) ∙ at) in (r.0, omega (arith, less))
  | inr least ↦ elim (cases_lt n j) [
    | inl past ↦ absurd (none-some m (sym (past_end (numbers_below n) n j (omega (arith, past, long n))) ∙ at))
    | inr same ↦ let e : j ≡ n = omega (arith, least, same) in (same_Some m j (sym at ∙ at_end (numbers_below n) n j (e ∙ sym (long n)) ∙ ap (λ k. Some k) (sym e)), omega (arith, e))
  ]
]

-- ---- kinds
-- a module has a kind
pub kind_told : (q : Program) (m : ℕ) (b : Bool) → TellsCommonJs q m b → (kind : ModuleKind) × HasKind q m kind
kind_told q m true tells = (Cjs, is_common_js (tells.0 refl))
kind_told q m false tells = (Es, is_es (λ is. false≢true (tells.1 is)))

-- ---- default
-- where nothing is declared twice, `default` is bound once
pub are_modules : (q : Program) (n : ℕ) (flags : ℕ → Bool) → ((m : ℕ) → TellsCommonJs q m (flags m)) → AreTreesReadable q n → HasNoDoubled q n → AreModules q
are_modules q n flags tells is none = record {
  trees = is.trees;
  once = record {
    unbound = λ m statement e own there. elim (cases_lt m n) [
      | inl within ↦ by m within (kind_told q m (flags m) (tells m)) statement e own there
      | inr past ↦ (let no : Contains (own_statements []) statement = subst (λ (tree : List Item). Contains (own_statements tree) statement) (is.others m (λ less. absurd (omega (arith, less, past)))) own in absurd (omega (arith, no.1)))
    ];
  };
}
  where
    by : (m : ℕ) → m < n → (kind : ModuleKind) × HasKind q m kind → (statement : List Element) (e : Item) → Contains (own_statements (tree_of q m)) statement → Contains statement (written e) → import_of (imports_of (tree_of q m)) default_name ≡ None
    by m within (Es, kind) statement e own there = is.default m (none m Es within kind) statement e own there
    by m within (Cjs, is_common_js common) statement e own there = absurd (script-unwritten (tree_of q m) common.script statement e own there)

-- where no module has a fault, none declares a name twice
pub none_doubled : (q : Program) (n : ℕ) → HasNoFault q n → HasNoDoubled q n
none_doubled q n none m kind within is = by (first_doubled kind (tree_of q m)) refl
  where
    by : (o : Option Declared) → first_doubled kind (tree_of q m) ≡ o →
        first_doubled kind (tree_of q m) ≡ None
    by None e = e
    by (Some d) e = absurd (none m 2 d.place (real []) _ within (doubled_declaration d is e))

-- ---- what is told
module _ (q : Program) (n : ℕ) (calls links : Option Found) (first : IsStageJudged q (numbers_below n) 0 2 calls) where
  pub by_calls : (fault : Found) → calls ≡ Some fault → TellsFirstFault q n (Some (t.Link fault))
  by_calls fault is = calls_first q n (numbers_below n) (all_below n) (only_below n) fault (subst (IsStageJudged q (numbers_below n) 0 2) is first)

  module _ (none : calls ≡ None) where
    no_calls : IsStageJudged q (numbers_below n) 0 2 None
    no_calls = subst (IsStageJudged q (numbers_below n) 0 2) none first

    pub by_doubled : (told : ModuleFault) → TellsDoubled q n (Some told) → TellsFirstFault q n (Some told)
    by_doubled (t.Link fault) is = absurd is
    by_doubled (t.Doubled m doubled) is =
        subst (λ (x : List ℕ). IsFirstOf q n m (λ file. DoubledDeclaration file x)) (sym is.name)
        (doubled_first q n (numbers_below n) (all_below n) (only_below n) no_calls m is.kind is.declared is.within is.its_kind is.there is.none_before)

    pub by_links : (fault : Found) → links ≡ Some fault → HasNoDoubled q n → IsStageJudged q (numbers_below n) 3 9 links → TellsFirstFault q n (Some (t.Link fault))
    by_links fault is undoubled judged = links_first q n (numbers_below n) (all_below n) (only_below n) fault no_calls undoubled (subst (IsStageJudged q (numbers_below n) 3 9) is judged)

    pub by_none : links ≡ None → HasNoDoubled q n → IsStageJudged q (numbers_below n) 3 9 links → TellsFirstFault q n None
    by_none is undoubled judged = none_of_all q n (numbers_below n) (all_below n) (only_below n) no_calls undoubled (subst (IsStageJudged q (numbers_below n) 3 9) is judged)

-- ---- names that are declared twice
-- one more module, in which none is
pub none_more : (q : Program) (m : ℕ) (kind : ModuleKind) → HasNoDoubled q m → HasKind q m kind → first_doubled kind (tree_of q m) ≡ None → ((a b : ModuleKind) → HasKind q m a → HasKind q m b → a ≡ b) → HasNoDoubled q (m + 1)
none_more q m kind none its_kind undoubled one k its below has = elim (cases_lt k m) [
  | inl less ↦ none k its less has
  | inr least ↦ (let e : m ≡ k = omega (arith, below, least) in
      let same : kind ≡ its = one kind its its_kind (subst (λ i. HasKind q i its) (sym e) has) in
      ap (λ i. first_doubled its (tree_of q i)) (sym e) ∙ ap (λ x. first_doubled x (tree_of q m)) (sym same) ∙ undoubled)
]

-- as what a module is read
pub kind_true : (q : Program) (m : ℕ) (b : Bool) → TellsCommonJs q m b → b ≡ true → HasKind q m Cjs
kind_true q m b tells is = is_common_js (tells.0 is)

pub kind_false : (q : Program) (m : ℕ) (b : Bool) → TellsCommonJs q m b → b ≡ false → HasKind q m Es
kind_false q m b tells is = is_es (λ common. false≢true (sym is ∙ tells.1 common))

-- a name that is told of a module is the first that it declares twice
pub first_in : (q : Program) (n m : ℕ) (kind : ModuleKind) (found : Option Doubled) (doubled : Doubled) → option_map doubled_told found ≡ option_map place_and_symbol (first_doubled kind (tree_of q m)) → found ≡ Some doubled → m < n → HasKind q m kind → HasNoDoubled q m → IsFirstDoubled q n m doubled
first_in q n m kind found doubled told is within its_kind before = by (first_doubled kind (tree_of q m)) refl
  where
    by : (o : Option Declared) → first_doubled kind (tree_of q m) ≡ o → IsFirstDoubled q n m doubled
    by None e = absurd (none-some (doubled_told doubled) (sym (told ∙ ap (option_map place_and_symbol) e) ∙ ap (option_map doubled_told) is))
    by (Some declared) e = record {
      within = within;
      kind = kind;
      its_kind = its_kind;
      declared = declared;
      there = e;
      name = let pair : doubled_told doubled ≡ place_and_symbol declared = same_Some (doubled_told doubled) (place_and_symbol declared) (sym (ap (option_map doubled_told) is) ∙ told ∙ ap (option_map place_and_symbol) e) in ap (λ x. x.1) pair;
      none_before = before;
    }

-- where none is told of a module, it declares none twice
pub none_in : (q : Program) (m : ℕ) (kind : ModuleKind) (found : Option Doubled) → option_map doubled_told found ≡ option_map place_and_symbol (first_doubled kind (tree_of q m)) → found ≡ None → first_doubled kind (tree_of q m) ≡ None
none_in q m kind found told is = by (first_doubled kind (tree_of q m)) refl
  where
    by : (o : Option Declared) → first_doubled kind (tree_of q m) ≡ o → first_doubled kind (tree_of q m) ≡ None
    by None e = e
    by (Some declared) e = absurd (none-some (place_and_symbol declared) (sym (ap (option_map doubled_told) is) ∙ told ∙ ap (option_map place_and_symbol) e))

-- a module has one kind
pub one_kind : (q : Program) (m : ℕ) (a b : ModuleKind) → HasKind q m a → HasKind q m b → a ≡ b
one_kind q m a b (is_es es) (is_es also) = refl
one_kind q m a b (is_es es) (is_common_js common) = absurd (es common)
one_kind q m a b (is_common_js common) (is_es es) = absurd (es common)
one_kind q m a b (is_common_js common) (is_common_js also) = refl
