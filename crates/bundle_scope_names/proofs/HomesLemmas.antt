-- What identifiers become in turn.
-- Tests over lists.
-- Contexts that are taken in turn.
-- Tests over lists, and over what a list is mapped to.
-- Where names belong does not change as contexts are given by a numbering.
-- What bindings are called, once one more had its turn.
-- Words told apart by their lengths.
use Rattle.std.proofs.Common.{◌≡◌, ℕ, suc, List, [], ◌∷◌, ◌++◌, Option, Some, map, take, length, append-nil, refl, ap, sym, ◌∙◌, ◌==◌, Bool, true, false, cond, ◌||◌, eqb-true, eq-eqb, bytes_eq, ◌<◌, ◌≤◌, ◌+◌, ◌⊎◌, inl, inr, ⊎_elim, zero, ◌&&◌, None, subst, arith, find, unwrap_or, ap₂, not}
use Rattle.std.specs.Prelude.{slice_get, option_and_then, MatchBool, IfSome, codes, if◌then◌else◌, is_some, filter}
use Rattle.std.specs.List.{flat_map, list_any}
use Rattle.std.proofs.lemmas.List.{map-append, length-append, length-map, take-append-le, take_all}
use Rattle.std.proofs.lemmas.List.Concat.{flat_map-append}
use Rattle.std.proofs.lemmas.List.Folds.{list_any-append}
use Rattle.std.proofs.lemmas.Slice.Eq.{bytes_eq-Decides}
use Rattle.std.specs.Borrow.{Bor}
use Rattle.std.specs.Option.{option_map, option_or}
use Rattle.std.proofs.lemmas.Bool.{false≢true, cases_order, or_parts, or_cases, or_left, or_right, false_from_ne_true, and_parts, and_from, eqb-false}
use Rattle.std.proofs.lemmas.Option.{none-some, same_Some, slice_get_past, slice_get-map, slice_get_within}
use Rattle.bundle_syntax.specs.Item.{Item}
use Rattle.bundle_rules.specs.Places.{Occurrence, occurrences, is_binding}
use Rattle.bundle_rules.specs.Idents.{Ident, ident_of, idents}
use Rattle.bundle_rules.specs.Rebuilds.{Change, change_to}
use Rattle.bundle_rules.specs.Keywords.{is_keyword}
use Rattle.bundle_rules.specs.Nodes.{Text}
use Rattle.bundle_rules.specs.Scopes.{Scope, Wrapper, Top, Inner, Parameters, ArrowParameters, FunctionBody, StaticBody, Block, CatchBlock, Loop, Catch, FunctionName, ClassName, scope_order, same_scope}
use Rattle.bundle_rules.specs.Declarations.{Way, ByImport, ByVar, ByLet, ByConst, ByFunction, ByClass, ByDefault, ByLoop, ByParameter, ByCatch, ByFunctionName, ByClassName, ByWrapper, Name, contexts_agree, names_agree, Declared}
use Rattle.bundle_rules.specs.Homes.{is_parameters, is_wrapper, from_taker, nearest, taker, parameters_of, joins_parameter, is_parameter, home_beside, home_of}
use Rattle.bundle_rules.specs.Renaming.{numbered}
use Rattle.bundle_tree_places.specs.Marks.{listed_as}
use Rattle.bundle_tree_places.proofs.ListLemmas.{take_at}
use Rattle.bundle_tree_places.proofs.MarksLemmas.{listed-each}
use Rattle.bundle_scope_denote.specs.declared.table.Binding.{Binding}
use Rattle.bundle_scope_denote.proofs.InsertLemmas.{at_append, list_any-found as list_any-found_named}
use Rattle.bundle_scope_names.specs.declared.names.Names.{Names}
use Rattle.bundle_scope_names.specs.declared.names.ContextRule.{ContextRule}
use Rattle.bundle_scope_names.specs.Called.{called_ident, in_context, name_changes, at, binding_text, context_of, keyword_text}
use Rattle.bundle_scope_names.specs.Changed.{change_next, idents_as}
use Rattle.bundle_scope_names.specs.declared.keywords.TakenNames.{TakenNames}
use Rattle.bundle_scope_names.specs.Fresh.{is_mangled, AreMangled, has_symbol_at, has_context, has_occurrence, collides, IsFresh, IsContextFor, ctxt_of, AreContexts, KnowsNames, AddsNames, AnswersCollision}
use Rattle.bundle_scope_names.proofs.Numbering.{Numbering, is_identified, lifted, lift_all}
use Rattle.bundle_scope_names.specs.declared.hygiene.Hygiene.{Hygiene}
use Rattle.bundle_scope_names.specs.Turns.{Facts, Turn, Place, binding_symbol, keeps_symbol, is_right, AreInTurn, AreCalledAfter, text_given, text_by}
use Rattle.bundle_scope_names.specs.Marks.{Knows}

-- ---- called
map-map : {A B C : Type 0} (f : B → C) (g : A → B) (xs : List A) → map f (map g xs) ≡ map (λ x. f (g x)) xs
map-map f g [] = refl
map-map f g (x ∷ xs) = ap (λ ys. f (g x) ∷ ys) (map-map f g xs)

-- one more identifier
name_changes-more : (names : Names) (contexts : ContextRule) (olds : List Ident) (old : Ident) (bindings : List (Option ℕ)) → name_changes names contexts (olds ++ old ∷ []) bindings ≡ name_changes names contexts olds bindings ++ change_next names contexts old (slice_get bindings (length (name_changes names contexts olds bindings)))
name_changes-more names contexts [] old [] = refl
name_changes-more names contexts [] old (b ∷ bs) = refl
name_changes-more names contexts (x ∷ xs) old [] = refl
name_changes-more names contexts (x ∷ xs) old (b ∷ bs) = ap (λ cs. change_to x (in_context contexts (called_ident names x b)) ∷ cs) (name_changes-more names contexts xs old bs)

-- the identifiers of a list are those of its elements
pub idents-each : (items : List Item) → idents items ≡ flat_map idents_as items
idents-each items = sym (map-map (λ pair. pair.0) (λ (o : Occurrence). (ident_of o, is_binding o.role)) (occurrences items)) ∙ ap (map (λ pair. pair.0)) (listed-each items) ∙ fronts items
  where
    fronts : (items : List Item) → map (λ pair. pair.0) (flat_map listed_as items) ≡ flat_map idents_as items
    fronts [] = refl
    fronts (item ∷ rest) = map-append (λ pair. pair.0) (listed_as item) (flat_map listed_as rest) ∙ ap (λ l. idents_as item ++ l) (fronts rest)

-- the changes of the identifiers among the first elements
abbrev pub changes_to_here : {A : Type 0} → (A → Item) → Names → ContextRule → List A → ℕ → List (Option ℕ) → List Change
changes_to_here item_of names contexts pieces i bindings = name_changes names contexts (flat_map idents_as (map item_of (take i pieces))) bindings

-- one element more
idents-more : {A : Type 0} (item_of : A → Item) (pieces : List A) (i : ℕ) (piece : A) (its : List Ident) → slice_get pieces i ≡ Some piece → its ≡ idents_as (item_of piece) → flat_map idents_as (map item_of (take (suc i) pieces)) ≡ flat_map idents_as (map item_of (take i pieces)) ++ its
idents-more item_of pieces i piece its is_at own = ap (λ l. flat_map idents_as (map item_of l)) (take_at pieces i piece is_at) ∙ ap (flat_map idents_as) (map-append item_of (take i pieces) (piece ∷ [])) ∙ flat_map-append idents_as (map item_of (take i pieces)) (item_of piece ∷ []) ∙ ap (λ l. flat_map idents_as (map item_of (take i pieces)) ++ l) (append-nil (idents_as (item_of piece)) ∙ sym own)

-- it is an identifier that occurs
pub changes-more : {A : Type 0} (item_of : A → Item) (names : Names) (contexts : ContextRule) (pieces : List A) (i : ℕ) (piece : A) (old : Ident) (bindings : List (Option ℕ)) (olds news : List Change) (count : ℕ) → slice_get pieces i ≡ Some piece → old ∷ [] ≡ idents_as (item_of piece) → news ≡ olds ++ change_next names contexts old (slice_get bindings count) → count ≡ length olds → olds ≡ changes_to_here item_of names contexts pieces i bindings → news ≡ changes_to_here item_of names contexts pieces (suc i) bindings
changes-more item_of names contexts pieces i piece old bindings olds news count is_at own more long known =
    more
    ∙ ap (λ n. olds ++ change_next names contexts old (slice_get bindings n)) long
    ∙ ap (λ l. l ++ change_next names contexts old (slice_get bindings (length l))) known
    ∙ sym (name_changes-more names contexts (flat_map idents_as (map item_of (take i pieces))) old bindings)
    ∙ ap (λ l. name_changes names contexts l bindings) (sym (idents-more item_of pieces i piece (old ∷ []) is_at own))

-- or it is none
pub changes-same : {A : Type 0} (item_of : A → Item) (names : Names) (contexts : ContextRule) (pieces : List A) (i : ℕ) (piece : A) (bindings : List (Option ℕ)) (olds : List Change) → slice_get pieces i ≡ Some piece → [] ≡ idents_as (item_of piece) → olds ≡ changes_to_here item_of names contexts pieces i bindings → olds ≡ changes_to_here item_of names contexts pieces (suc i) bindings
changes-same item_of names contexts pieces i piece bindings olds is_at own known =
    known
    ∙ ap (λ l. name_changes names contexts l bindings) (sym (idents-more item_of pieces i piece [] is_at own ∙ append-nil (flat_map idents_as (map item_of (take i pieces)))))

-- ---- test

-- two tests that follow from each other are one
pub iff : (a b : Bool) → (a ≡ true → b ≡ true) → (b ≡ true → a ≡ true) → a ≡ b
iff true true f g = refl
iff true false f g = sym (f refl)
iff false true f g = g refl
iff false false f g = refl

pub or_false : (b : Bool) → (b || false) ≡ b
or_false true = refl
or_false false = refl

pub or_assoc : (a b c : Bool) → ((a || b) || c) ≡ (a || (b || c))
or_assoc true b c = refl
or_assoc false b c = refl

-- a test that holds or does not
pub either : {P : Type 0} (b : Bool) → (b ≡ true → P) → (b ≡ false → P) → P
either true f g = f refl
either false f g = g refl

pub any_more : {X : Type 0} (p : X → Bool) (xs : List X) (y : X) → list_any p (xs ++ y ∷ []) ≡ (list_any p xs || p y)
any_more p xs y = list_any-append p xs (y ∷ []) ∙ ap (λ b. list_any p xs || b) (or_false (p y))

pub any_or : {X : Type 0} (p q : X → Bool) (xs : List X) → list_any (λ x. p x || q x) xs ≡ (list_any p xs || list_any q xs)
any_or p q [] = refl
any_or p q (x ∷ xs) = ap (λ b. (p x || q x) || b) (any_or p q xs) ∙ turn (p x) (q x) (list_any p xs) (list_any q xs)
  where
    turn : (a b c d : Bool) → ((a || b) || (c || d)) ≡ ((a || c) || (b || d))
    turn true b c d = refl
    turn false true true d = refl
    turn false true false d = refl
    turn false false c d = refl

pub eq_comm : (a b : ℕ) → (a == b) ≡ (b == a)
eq_comm a b = iff (a == b) (b == a) (λ e. eq-eqb b a (sym (eqb-true a b e))) (λ e. eq-eqb a b (sym (eqb-true b a e)))

pub bytes_comm : (a b : List ℕ) → bytes_eq a b ≡ bytes_eq b a
bytes_comm a b = iff (bytes_eq a b) (bytes_eq b a) (λ e. (bytes_eq-Decides b a).1 (sym ((bytes_eq-Decides a b).0 e))) (λ e. (bytes_eq-Decides a b).1 (sym ((bytes_eq-Decides b a).0 e)))

pub bytes_same : (a b : List ℕ) → bytes_eq a b ≡ true → a ≡ b
bytes_same a b = (bytes_eq-Decides a b).0

pub same_bytes : (a b : List ℕ) → a ≡ b → bytes_eq a b ≡ true
same_bytes a b = (bytes_eq-Decides a b).1

-- what a set or a map tells once one more is in it
pub given-or : (a b : Bool) → cond a true b ≡ (b || a)
given-or true true = refl
given-or true false = refl
given-or false true = refl
given-or false false = refl

-- ---- fresh

-- how a set changes as a symbol with a context is put, as the set tells it
abbrev pub PutsName : (ctxt : ℕ) → Text → (old new : List (ℕ × Bor Text)) → Type 0
PutsName ctxt text old new = (q : ℕ × Bor Text) → list_any (λ (k : ℕ × Bor Text). q.0 == k.0 && bytes_eq q.1.now k.1.now) new ≡ cond (ctxt == q.0 && bytes_eq text q.1.now) true (list_any (λ (k : ℕ × Bor Text). q.0 == k.0 && bytes_eq q.1.now k.1.now) old)

-- what stands there then
pub name-put : (ctxt : ℕ) (text : Text) (old new : List (ℕ × Bor Text)) → PutsName ctxt text old new → (its : ℕ) (other : Text) → has_symbol_at its other new ≡ (has_symbol_at its other old || (ctxt == its && bytes_eq other text))
name-put ctxt text old new puts its other =
    let q : ℕ × Bor Text = (its, record { ref_ptr = (0, 0); now = other }) in
    puts q ∙ by (ctxt == its) (bytes_eq text other) (has_symbol_at its other old) ∙ ap (λ b. has_symbol_at its other old || (ctxt == its && b)) (bytes_comm text other)
  where
    by : (a b c : Bool) → cond (a && b) true c ≡ (c || (a && b))
    by true true true = refl
    by true true false = refl
    by true false c = sym (or_false c)
    by false b c = sym (or_false c)

pub names-more : {A : Type 0} (item_of : A → Item) (pieces : List A) (i : ℕ) (x : A) (old new : TakenNames) → slice_get pieces i ≡ Some x → AddsNames (item_of x) old new → KnowsNames (map item_of (take i pieces)) old → KnowsNames (map item_of (take (suc i) pieces)) new
names-more item_of pieces i x old new at adds known = subst (λ l. KnowsNames l new) (sym (ap (map item_of) (take_at pieces i x at) ∙ map-append item_of (take i pieces) (x ∷ []))) (record {
  names = λ ctxt text mangled. adds.names ctxt text mangled ∙ ap (λ b. b || has_occurrence text ctxt (item_of x)) (known.names ctxt text mangled) ∙ sym (any_more (has_occurrence text ctxt) (map item_of (take i pieces)) (item_of x));
  contexts = λ ctxt. adds.contexts ctxt ∙ ap (λ b. b || has_context ctxt (item_of x)) (known.contexts ctxt) ∙ sym (any_more (has_context ctxt) (map item_of (take i pieces)) (item_of x));
})

-- what begins as texts do that stand for reserved words is no text that does not
pub unmangled : (text other_text : Text) → is_mangled text ≡ true → is_mangled other_text ≡ false → bytes_eq text other_text ≡ false
unmangled text other_text is other = by (bytes_eq text other_text) refl
  where
    by : (b : Bool) → bytes_eq text other_text ≡ b → b ≡ false
    by true same = absurd (false≢true (sym other ∙ ap is_mangled (sym (bytes_same text other_text same)) ∙ is))
    by false same = refl

mangled_keyword : (symbol text : Text) → keyword_text symbol ≡ Some text → is_mangled text ≡ true
mangled_keyword symbol text = by (is_keyword symbol)
  where
    by : (b : Bool) → (if b then Some (codes "__" ++ symbol) else None) ≡ Some text → is_mangled text ≡ true
    by true e = subst (λ (t : Text). is_mangled t ≡ true) (same_Some (codes "__" ++ symbol) text e) refl
    by false e = absurd (none-some text e)

pub mangled_keywords : (bindings : List Binding) → AreMangled (map (λ (binding : Binding). keyword_text binding.sym.now) bindings)
mangled_keywords [] number text e = absurd (none-some text e)
mangled_keywords (x ∷ rest) zero text e = mangled_keyword x.sym.now text e
mangled_keywords (x ∷ rest) (suc number) text e = mangled_keywords rest number text e

pub mangled_at : (texts : List (Option Text)) (text : Option (Bor Text)) (number : ℕ) → AreMangled texts → option_map (λ (t : Bor Text). t.now) text ≡ at texts number → IfSome text (λ t. is_mangled t.now ≡ true)
mangled_at texts None number are e = tt
mangled_at texts (Some text) number are e = are number text.now (sym e)

-- the contexts of the first bindings
pub record AreContextsTo (items : List Item) (bindings : List Binding) (texts : List (Option Text)) (n : ℕ) (contexts : List (Option ℕ)) (taken : TakenNames) : Type 0 where
  pub len : length contexts ≡ n
  pub each : (number : ℕ) → number < n → IsContextFor items (at texts number) (ctxt_of bindings number) (at contexts number)
  pub apart : (i j ctxt : ℕ) → at contexts i ≡ Some ctxt → at contexts j ≡ Some ctxt → i ≡ j
  pub below : (i ctxt : ℕ) → at contexts i ≡ Some ctxt → ctxt < taken.next
  pub low : 2 ≤ taken.next
  pub knows : KnowsNames items taken

at-past : {A : Type 0} (xs : List (Option A)) (i : ℕ) → length xs ≤ i → at xs i ≡ None
at-past xs i past = ap (option_and_then (λ value. value)) (slice_get_past xs i past)

-- what stands in a list that one was added to
at-old : {A : Type 0} (xs : List (Option A)) (y : Option A) (i : ℕ) → i < length xs → at (xs ++ y ∷ []) i ≡ at xs i
at-old [] y i lt = absurd (omega arith)
at-old (x ∷ xs) y zero lt = refl
at-old (x ∷ xs) y (suc i) lt = let less : i < length xs = omega arith in at-old xs y i less

at-new : {A : Type 0} (xs : List (Option A)) (y : Option A) → at (xs ++ y ∷ []) (length xs) ≡ y
at-new [] y = refl
at-new (x ∷ xs) y = at-new xs y

pub contexts-more : (items : List Item) (bindings : List Binding) (texts : List (Option Text)) (n : ℕ) (old new : List (Option ℕ)) (context : Option ℕ) (before after : TakenNames) → new ≡ old ++ context ∷ [] → AnswersCollision (collides items (at texts n) (ctxt_of bindings n)) before after context → AreContextsTo items bindings texts n old before → AreContextsTo items bindings texts (n + 1) new after
contexts-more items bindings texts n old new context before after is answers known = subst (λ l. AreContextsTo items bindings texts (n + 1) l after) (sym is) (by (collides items (at texts n) (ctxt_of bindings n)) refl context answers)
  where
    here : (context : Option ℕ) → at (old ++ context ∷ []) n ≡ context
    here context = ap (at (old ++ context ∷ [])) (sym known.len) ∙ at-new old context

    there : (context : Option ℕ) (i : ℕ) → i < n → at (old ++ context ∷ []) i ≡ at old i
    there context i lt = at-old old context i (subst (λ m. i < m) (sym known.len) lt)

    beyond : (context : Option ℕ) (i : ℕ) → n < i → at (old ++ context ∷ []) i ≡ None
    beyond context i lt = let len = length-append old (context ∷ []) in let e = known.len in at-past (old ++ context ∷ []) i (omega (arith, len, e, lt))

    keeps_symbol : (context : Option ℕ) → context ≡ None → collides items (at texts n) (ctxt_of bindings n) ≡ false → IsContextFor items (at texts n) (ctxt_of bindings n) context
    keeps_symbol context none e = subst (λ b. MatchBool b (IsFresh items context) (context ≡ None)) (sym e) none

    takes : (context : Option ℕ) → collides items (at texts n) (ctxt_of bindings n) ≡ true → IsFresh items context → IsContextFor items (at texts n) (ctxt_of bindings n) context
    takes context e fresh = subst (λ b. MatchBool b (IsFresh items context) (context ≡ None)) (sym e) fresh

    -- where a context stands
    stands : (context : Option ℕ) (i ctxt : ℕ) → at (old ++ context ∷ []) i ≡ Some ctxt → ((i < n) × (at old i ≡ Some ctxt)) ⊎ ((i ≡ n) × (context ≡ Some ctxt))
    stands context i ctxt e = ⊎_elim (λ same. inr (same, sym (here context) ∙ ap (at (old ++ context ∷ [])) (sym same) ∙ e)) (λ apart. ⊎_elim (λ lt. inl (lt, sym (there context i lt) ∙ e)) (λ gt. absurd (none-some ctxt (sym (beyond context i gt) ∙ e))) apart) (cases_order i n)

    make : (context : Option ℕ) → IsContextFor items (at texts n) (ctxt_of bindings n) context → KnowsNames items after → before.next ≤ after.next → ((ctxt : ℕ) → context ≡ Some ctxt → (before.next ≤ ctxt) × (ctxt < after.next)) → AreContextsTo items bindings texts (n + 1) (old ++ context ∷ []) after
    make context own knows rises bound = record {
      len = let len = length-append old (context ∷ []) in let e = known.len in omega (arith, len, e);
      each = λ number lt. ⊎_elim (λ same. subst (λ k. IsContextFor items (at texts k) (ctxt_of bindings k) (at (old ++ context ∷ []) k)) (sym same) (subst (IsContextFor items (at texts n) (ctxt_of bindings n)) (sym (here context)) own)) (λ apart. ⊎_elim (λ less. subst (IsContextFor items (at texts number) (ctxt_of bindings number)) (sym (there context number less)) (known.each number less)) (λ gt. absurd (omega arith)) apart) (cases_order number n);
      apart = λ i j ctxt at_i at_j. apart i j ctxt (stands context i ctxt at_i) (stands context j ctxt at_j);
      below = λ i ctxt at_i. ⊎_elim (λ earlier. let lt = known.below i ctxt earlier.1 in omega (arith, lt, rises)) (λ now_. (bound ctxt now_.1).1) (stands context i ctxt at_i);
      low = let lo = known.low in omega (arith, lo, rises);
      knows = knows;
    }
      where
        apart : (i j ctxt : ℕ) → ((i < n) × (at old i ≡ Some ctxt)) ⊎ ((i ≡ n) × (context ≡ Some ctxt)) → ((j < n) × (at old j ≡ Some ctxt)) ⊎ ((j ≡ n) × (context ≡ Some ctxt)) → i ≡ j
        apart i j ctxt (inl a) (inl b) = known.apart i j ctxt a.1 b.1
        apart i j ctxt (inl a) (inr b) = let lt = known.below i ctxt a.1 in let le = (bound ctxt b.1).0 in absurd (omega (arith, lt, le))
        apart i j ctxt (inr a) (inl b) = let lt = known.below j ctxt b.1 in let le = (bound ctxt a.1).0 in absurd (omega (arith, lt, le))
        apart i j ctxt (inr a) (inr b) = a.0 ∙ sym b.0

    by : (v : Bool) → collides items (at texts n) (ctxt_of bindings n) ≡ v → (context : Option ℕ) → AnswersCollision v before after context → AreContextsTo items bindings texts (n + 1) (old ++ context ∷ []) after
    by true e None answers = absurd answers
    by true e (Some ctxt) answers = make (Some ctxt) (takes (Some ctxt) e (let lo = known.low in let from = answers.from in omega (arith, lo, from), sym (known.knows.contexts ctxt) ∙ answers.free)) (record { names = λ c text mangled. ap (has_symbol_at c text) answers.names ∙ known.knows.names c text mangled; contexts = λ c. ap (list_any (λ other. c == other)) answers.contexts ∙ known.knows.contexts c }) (let from = answers.from in let below = answers.below in omega (arith, from, below)) (λ other same. let one = same_Some ctxt other same in let from = answers.from in let below = answers.below in (omega (arith, one, from), omega (arith, one, below)))
    by false e (Some ctxt) answers = absurd answers
    by false e None answers = make None (keeps_symbol None refl e) (subst (KnowsNames items) (sym answers) known.knows) (let same : after.next ≡ before.next = ap (λ (x : TakenNames). x.next) answers in omega (arith, same)) (λ other same. absurd (none-some other same))

pub contexts-last : (items : List Item) (bindings : List Binding) (texts : List (Option Text)) (n : ℕ) (contexts : List (Option ℕ)) (taken : TakenNames) → n ≡ length texts → AreContextsTo items bindings texts n contexts taken → AreContexts items bindings texts contexts
contexts-last items bindings texts n contexts taken whole known = record {
  len = known.len ∙ whole;
  each = λ number lt. known.each number (subst (λ m. number < m) (sym whole) lt);
  apart = known.apart;
}

-- without texts there are no contexts
no_text-at : {A : Type 0} (f : A → Text) (texts : List (Option A)) (i : ℕ) → list_any (λ text. is_some text) texts ≡ false → at (map (λ (o : Option A). option_map f o) texts) i ≡ None
no_text-at f [] i none = refl
no_text-at f (None ∷ rest) zero none = refl
no_text-at f (Some x ∷ rest) zero none = absurd (false≢true (sym none))
no_text-at f (x ∷ rest) (suc i) none = no_text-at f rest i (or_parts (is_some x) (list_any (λ text. is_some text) rest) none).1

pub contexts-none : {A : Type 0} (f : A → Text) (items : List Item) (bindings : List Binding) (texts : List (Option A)) (contexts : List (Option ℕ)) → list_any (λ text. is_some text) texts ≡ false → length contexts ≡ length texts → ((number : ℕ) → at contexts number ≡ None) → AreContexts items bindings (map (option_map f) texts) contexts
contexts-none f items bindings texts contexts none len all = record {
  len = len ∙ sym (length-map texts (option_map f));
  each = λ number lt. subst (λ t. IsContextFor items t (ctxt_of bindings number) (at contexts number)) (sym (no_text-at f texts number none)) (all number);
  apart = λ i j ctxt at_i at_j. absurd (none-some ctxt (sym (all i) ∙ at_i));
}

-- ---- lists

-- a test that some element passes
pub list_any-found : {A : Type 0} (p : A → Bool) (xs : List A) → list_any p xs ≡ true → (i : ℕ) × (x : A) × (slice_get xs i ≡ Some x) × (p x ≡ true)
list_any-found p [] e = absurd (false≢true e)
list_any-found {A = A} p (x ∷ xs) e = here_or_later (list_any-found p xs) (or_cases (p x) (list_any p xs) e)
  where
    here_or_later : (list_any p xs ≡ true → (i : ℕ) × (y : A) × (slice_get xs i ≡ Some y) × (p y ≡ true)) → (p x ≡ true) ⊎ (list_any p xs ≡ true) → (i : ℕ) × (y : A) × (slice_get (x ∷ xs) i ≡ Some y) × (p y ≡ true)
    here_or_later ih (inl here) = (0, x, refl, here)
    here_or_later ih (inr later) = let found = ih later in (suc found.0, found.1, found.2, found.3)

-- an element that passes
pub list_any-here : {A : Type 0} (p : A → Bool) (xs : List A) (i : ℕ) (x : A) → slice_get xs i ≡ Some x → p x ≡ true → list_any p xs ≡ true
list_any-here p [] i x at passes = absurd (none-some x at)
list_any-here p (y ∷ ys) zero x at passes = or_left (p y) (list_any p ys) (ap p (same_Some y x at) ∙ passes)
list_any-here p (y ∷ ys) (suc i) x at passes = or_right (p y) (list_any p ys) (list_any-here p ys i x at passes)

-- a test that agrees at each element
pub list_any-same : {A : Type 0} (p q : A → Bool) → ((x : A) → q x ≡ p x) → (xs : List A) → list_any q xs ≡ list_any p xs
list_any-same p q same [] = refl
list_any-same p q same (x ∷ xs) = ap (λ b. b || list_any q xs) (same x) ∙ ap (λ b. p x || b) (list_any-same p q same xs)

-- a test that is passed wherever another is, over what the list is mapped to
pub list_any-more : {A B : Type 0} (p : A → Bool) (q : B → Bool) (f : A → B) → ((x : A) → p x ≡ true → q (f x) ≡ true) → (xs : List A) → list_any p xs ≡ true → list_any q (map f xs) ≡ true
list_any-more p q f more [] e = absurd (false≢true e)
list_any-more p q f more (x ∷ xs) e = ⊎_elim (λ here. or_left (q (f x)) (list_any q (map f xs)) (more x here)) (λ later. or_right (q (f x)) (list_any q (map f xs)) (list_any-more p q f more xs later)) (or_cases (p x) (list_any p xs) e)

-- a test that is passed nowhere where another is not
pub list_any-less : {A B : Type 0} (p : A → Bool) (q : B → Bool) (f : A → B) → ((x : A) → q (f x) ≡ true → p x ≡ true) → (xs : List A) → list_any p xs ≡ false → list_any q (map f xs) ≡ false
list_any-less p q f less [] e = refl
list_any-less p q f less (x ∷ xs) e =
    let parts = or_parts (p x) (list_any p xs) e in
    let here : q (f x) ≡ false = false_from_ne_true (q (f x)) (λ passes. false≢true (sym parts.0 ∙ less x passes)) in
    ap (λ b. b || list_any q (map f xs)) here ∙ list_any-less p q f less xs parts.1

-- what is found passes
pub find-passes : {A : Type 0} (p : A → Bool) (xs : List A) (x : A) → find p xs ≡ Some x → p x ≡ true
find-passes p [] x e = absurd (none-some x e)
find-passes {A = A} p (y ∷ ys) x e = by_first (find-passes p ys x) (p y) refl e
  where
    by_first : (find p ys ≡ Some x → p x ≡ true) → (b : Bool) → p y ≡ b → cond b (Some y) (find p ys) ≡ Some x → p x ≡ true
    by_first ih true is found = ap p (sym (same_Some y x found)) ∙ is
    by_first ih false is found = ih found

-- a stronger test finds nothing where a weaker finds nothing
pub find-nothing : {A : Type 0} (p q : A → Bool) → ((x : A) → q x ≡ true → p x ≡ true) → (xs : List A) → find p xs ≡ None → find q xs ≡ None
find-nothing p q less [] e = refl
find-nothing {A = A} p q less (y ∷ ys) e = by_first (find-nothing p q less ys) (p y) refl e
  where
    by_first : (find p ys ≡ None → find q ys ≡ None) → (b : Bool) → p y ≡ b → cond b (Some y) (find p ys) ≡ None → find q (y ∷ ys) ≡ None
    by_first ih true is none = absurd (none-some y (sym none))
    by_first ih false is none = let fails : q y ≡ false = false_from_ne_true (q y) (λ passes. false≢true (sym is ∙ less y passes)) in ap (λ b. cond b (Some y) (find q ys)) fails ∙ ih none

-- a stronger test finds the same, where it is passed there
pub find-same : {A : Type 0} (p q : A → Bool) → ((x : A) → q x ≡ true → p x ≡ true) → (xs : List A) (x : A) → find p xs ≡ Some x → q x ≡ true → find q xs ≡ Some x
find-same p q less [] x e passes = absurd (none-some x e)
find-same {A = A} p q less (y ∷ ys) x e passes = by_first (λ g. find-same p q less ys x g passes) (p y) refl e
  where
    by_first : (find p ys ≡ Some x → find q ys ≡ Some x) → (b : Bool) → p y ≡ b → cond b (Some y) (find p ys) ≡ Some x → find q (y ∷ ys) ≡ Some x
    by_first ih true is found = let is_it = same_Some y x found in ap (λ b. cond b (Some y) (find q ys)) (ap q is_it ∙ passes) ∙ found
    by_first ih false is found = let fails : q y ≡ false = false_from_ne_true (q y) (λ holds. false≢true (sym is ∙ less y holds)) in ap (λ b. cond b (Some y) (find q ys)) fails ∙ ih found

-- a test that nothing passes finds nothing
pub find-none : {A : Type 0} (q : A → Bool) → ((x : A) → q x ≡ false) → (xs : List A) → find q xs ≡ None
find-none q fails [] = refl
find-none q fails (x ∷ xs) = ap (λ b. cond b (Some x) (find q xs)) (fails x) ∙ find-none q fails xs

-- nothing found means that each fails
pub find-failed : {A : Type 0} (p : A → Bool) (xs : List A) → find p xs ≡ None → (i : ℕ) (x : A) → slice_get xs i ≡ Some x → p x ≡ false
find-failed p [] e i x at = absurd (none-some x at)
find-failed {A = A} p (y ∷ ys) e i x at = by_first (find-failed p ys) (p y) refl e i at
  where
    by_first : (find p ys ≡ None → (j : ℕ) (z : A) → slice_get ys j ≡ Some z → p z ≡ false) → (b : Bool) → p y ≡ b → cond b (Some y) (find p ys) ≡ None → (j : ℕ) → slice_get (y ∷ ys) j ≡ Some x → p x ≡ false
    by_first ih true is none j there = absurd (none-some y (sym none))
    by_first ih false is none zero there = ap p (sym (same_Some y x there)) ∙ is
    by_first ih false is none (suc j) there = ih none j x there

-- each element of a list has this
abbrev pub Each : {A : Type 0} → (A → Type 0) → List A → Type 0
Each {A} P xs = (i : ℕ) (x : A) → slice_get xs i ≡ Some x → P x

-- and each but the first
pub each-rest : {A : Type 0} (P : A → Type 0) (x : A) (xs : List A) → Each P (x ∷ xs) → Each P xs
each-rest P x xs each i y at = each (suc i) y at

-- a test that agrees at each element that has this, over what the list is mapped to
pub list_any-map_each : {A B : Type 0} (P : A → Type 0) (p : A → Bool) (q : B → Bool) (f : A → B) → ((x : A) → P x → q (f x) ≡ p x) → (xs : List A) → Each P xs → list_any q (map f xs) ≡ list_any p xs
list_any-map_each P p q f same [] each = refl
list_any-map_each P p q f same (x ∷ xs) each = ap (λ b. b || list_any q (map f xs)) (same x (each 0 x refl)) ∙ ap (λ b. p x || b) (list_any-map_each P p q f same xs (each-rest P x xs each))

-- a test and a fact that all share
pub list_any-and : {A : Type 0} (p : A → Bool) (b : Bool) (xs : List A) → list_any (λ x. p x && b) xs ≡ (list_any p xs && b)
list_any-and p b [] = refl
list_any-and p b (x ∷ xs) = ap (λ later. (p x && b) || later) (list_any-and p b xs) ∙ shared (p x) (list_any p xs) b
  where
    shared : (first later fact : Bool) → ((first && fact) || (later && fact)) ≡ ((first || later) && fact)
    shared true later true = refl
    shared true true false = refl
    shared true false false = refl
    shared false later fact = refl

-- a weaker test
pub list_any-implies : {A : Type 0} (p q : A → Bool) → ((x : A) → p x ≡ true → q x ≡ true) → (xs : List A) → list_any p xs ≡ true → list_any q xs ≡ true
list_any-implies p q more [] e = absurd (false≢true e)
list_any-implies p q more (x ∷ xs) e = ⊎_elim (λ here. or_left (q x) (list_any q xs) (more x here)) (λ later. or_right (q x) (list_any q xs) (list_any-implies p q more xs later)) (or_cases (p x) (list_any p xs) e)

-- ---- homes

-- whether a scope is that of parameters, of a wrapper too
abbrev pub has_parameters : Scope → Bool
has_parameters scope = is_parameters scope || is_wrapper scope

-- no `var` is taken by parameters
pub var_taker : (scopes : List Scope) → has_parameters (unwrap_or (nearest (from_taker ByVar scopes)) Top) ≡ false
var_taker [] = refl
var_taker (Wrapper ∷ outer) = var_taker outer
var_taker (Top ∷ outer) = refl
var_taker (Inner FunctionBody begins ∷ outer) = refl
var_taker (Inner StaticBody begins ∷ outer) = refl
var_taker (Inner Parameters begins ∷ outer) = var_taker outer
var_taker (Inner ArrowParameters begins ∷ outer) = var_taker outer
var_taker (Inner Block begins ∷ outer) = var_taker outer
var_taker (Inner CatchBlock begins ∷ outer) = var_taker outer
var_taker (Inner Loop begins ∷ outer) = var_taker outer
var_taker (Inner Catch begins ∷ outer) = var_taker outer
var_taker (Inner FunctionName begins ∷ outer) = var_taker outer
var_taker (Inner ClassName begins ∷ outer) = var_taker outer

-- and no function
pub function_taker : (scopes : List Scope) → has_parameters (unwrap_or (nearest (from_taker ByFunction scopes)) Top) ≡ false
function_taker [] = refl
function_taker (Wrapper ∷ outer) = function_taker outer
function_taker (Top ∷ outer) = refl
function_taker (Inner FunctionBody begins ∷ outer) = refl
function_taker (Inner StaticBody begins ∷ outer) = refl
function_taker (Inner Parameters begins ∷ outer) = function_taker outer
function_taker (Inner ArrowParameters begins ∷ outer) = function_taker outer
function_taker (Inner Block begins ∷ outer) = refl
function_taker (Inner CatchBlock begins ∷ outer) = refl
function_taker (Inner Loop begins ∷ outer) = function_taker outer
function_taker (Inner Catch begins ∷ outer) = function_taker outer
function_taker (Inner FunctionName begins ∷ outer) = function_taker outer
function_taker (Inner ClassName begins ∷ outer) = function_taker outer

-- a parameter belongs where it stands
pub home-parameter-by : (way : Way) (scopes : List Scope) (beside : Scope) → has_parameters (unwrap_or (nearest (from_taker way scopes)) Top) ≡ true → cond (joins_parameter way) beside (unwrap_or (nearest (from_taker way scopes)) Top) ≡ unwrap_or (nearest (from_taker way scopes)) Top
home-parameter-by ByVar scopes beside e = absurd (false≢true (sym (var_taker scopes) ∙ e))
home-parameter-by ByFunction scopes beside e = absurd (false≢true (sym (function_taker scopes) ∙ e))
home-parameter-by ByImport scopes beside e = refl
home-parameter-by ByLet scopes beside e = refl
home-parameter-by ByConst scopes beside e = refl
home-parameter-by ByClass scopes beside e = refl
home-parameter-by ByDefault scopes beside e = refl
home-parameter-by ByLoop scopes beside e = refl
home-parameter-by ByParameter scopes beside e = refl
home-parameter-by ByCatch scopes beside e = refl
home-parameter-by ByFunctionName scopes beside e = refl
home-parameter-by ByClassName scopes beside e = refl
home-parameter-by ByWrapper scopes beside e = refl

pub home-parameter : (all : List Declared) (d : Declared) → has_parameters (taker d) ≡ true → home_of all d ≡ taker d
home-parameter all d e = home-parameter-by d.by d.scopes (home_beside all d (parameters_of (from_taker d.by d.scopes))) e

-- a name that is read by its symbol agrees with each context
pub agrees-by_symbol : (a : Option ℕ) → contexts_agree a None ≡ true
agrees-by_symbol None = refl
agrees-by_symbol (Some n) = refl

-- the contexts that are given to two identifiers agree, where the numbers do
pub agrees-given : (one other : Bool) (m n : ℕ) → m ≡ n → contexts_agree (cond one (Some m) None) (cond other (Some n) None) ≡ true
agrees-given true true m n e = eq-eqb m n e
agrees-given true false m n e = refl
agrees-given false other m n e = refl

-- a name is read by its symbol
abbrev pub IsBySymbol : Declared → Type 0
IsBySymbol d = d.name.ctxt ≡ None

-- two names agree by symbol where their symbols do
pub names_agree-by_symbol : (a b : Name) → b.ctxt ≡ None → names_agree a b ≡ bytes_eq a.sym b.sym
names_agree-by_symbol a b none = ap (λ c. bytes_eq a.sym b.sym && contexts_agree a.ctxt c) none ∙ by_both (bytes_eq a.sym b.sym) (agrees-by_symbol a.ctxt)
  where
    by_both : (x : Bool) → contexts_agree a.ctxt None ≡ true → (x && contexts_agree a.ctxt None) ≡ x
    by_both true e = e
    by_both false e = refl

-- equal scopes have one order
pub same_order : (s t : Scope) → same_scope s t ≡ true → scope_order s ≡ scope_order t
same_order s t e = eqb-true (scope_order s) (scope_order t) e

-- a parameter that a name of the body is, is so with contexts too
parameter-more : (f : Numbering) (all : List Declared) (d : Declared) (scope : Scope) → d.name.ctxt ≡ None → home_of all d ≡ scope → (p : Declared) → is_parameter scope d.name p ≡ true → is_parameter scope (lifted f all d).name (lifted f all p) ≡ true
parameter-more f all d scope none home p e =
    let whole = and_parts (has_parameters (taker p) && same_scope (taker p) scope) (names_agree p.name d.name) e in
    let parts = and_parts (has_parameters (taker p)) (same_scope (taker p) scope) whole.0 in
    let symbols : bytes_eq p.name.sym d.name.sym ≡ true = sym (names_agree-by_symbol p.name d.name none) ∙ whole.1 in
    let orders : scope_order (home_of all p) ≡ scope_order (home_of all d) = ap scope_order (home-parameter all p parts.0) ∙ same_order (taker p) scope parts.1 ∙ ap scope_order (sym home) in
    let numbers : f (scope_order (home_of all p)) p.name.sym ≡ f (scope_order (home_of all d)) d.name.sym = ap (λ n. f n p.name.sym) orders ∙ ap (f (scope_order (home_of all d))) (bytes_same p.name.sym d.name.sym symbols) in
    and_from (has_parameters (taker p) && same_scope (taker p) scope) _ whole.0 (and_from (bytes_eq p.name.sym d.name.sym) _ symbols (agrees-given (is_identified p.by) (is_identified d.by) _ _ numbers))

-- what is no parameter of a name is none with contexts
parameter-less : (f : Numbering) (all : List Declared) (d : Declared) (scope : Scope) → d.name.ctxt ≡ None → (p : Declared) → is_parameter scope (lifted f all d).name (lifted f all p) ≡ true → is_parameter scope d.name p ≡ true
parameter-less f all d scope none p e =
    let whole = and_parts (has_parameters (taker p) && same_scope (taker p) scope) (names_agree (lifted f all p).name (lifted f all d).name) e in
    let agree = and_parts (bytes_eq p.name.sym d.name.sym) (contexts_agree (lifted f all p).name.ctxt (lifted f all d).name.ctxt) whole.1 in
    and_from (has_parameters (taker p) && same_scope (taker p) scope) _ whole.0 (names_agree-by_symbol p.name d.name none ∙ agree.0)

-- beside parameters
beside-same : (f : Numbering) (all : List Declared) (d : Declared) → d.name.ctxt ≡ None → (beside : Option Scope) → (home_of all d ≡ home_beside all d beside) → home_beside (lift_all f all) (lifted f all d) beside ≡ home_beside all d beside
beside-same f all d none None home = refl
beside-same f all d none (Some scope) home = by_first (list_any (is_parameter scope d.name) all) refl
  where
    by_first : (b : Bool) → list_any (is_parameter scope d.name) all ≡ b → cond (list_any (is_parameter scope (lifted f all d).name) (lift_all f all)) scope (taker d) ≡ cond (list_any (is_parameter scope d.name) all) scope (taker d)
    by_first true e = ap (λ b. cond b scope (taker d)) (list_any-more (is_parameter scope d.name) (is_parameter scope (lifted f all d).name) (lifted f all) (parameter-more f all d scope none (home ∙ ap (λ b. cond b scope (taker d)) e)) all e ∙ sym e)
    by_first false e = ap (λ b. cond b scope (taker d)) (list_any-less (is_parameter scope d.name) (is_parameter scope (lifted f all d).name) (lifted f all) (parameter-less f all d scope none) all e ∙ sym e)

-- the scope to which a name belongs stays
pub home-lifted : (f : Numbering) (all : List Declared) (d : Declared) → d.name.ctxt ≡ None → home_of (lift_all f all) (lifted f all d) ≡ home_of all d
home-lifted f all d none = by_joins (joins_parameter d.by) refl
  where
    by_joins : (b : Bool) → joins_parameter d.by ≡ b → home_of (lift_all f all) (lifted f all d) ≡ home_of all d
    by_joins true e =
        let beside : Option Scope = parameters_of (from_taker d.by d.scopes) in
        let is : home_of all d ≡ home_beside all d beside = ap (λ b. cond b (home_beside all d beside) (taker d)) e in
        ap (λ b. cond b (home_beside (lift_all f all) (lifted f all d) beside) (taker d)) e ∙ beside-same f all d none beside is ∙ sym is
    by_joins false e = ap (λ b. cond b (home_beside (lift_all f all) (lifted f all d) (parameters_of (from_taker d.by d.scopes))) (taker d)) e ∙ sym (ap (λ b. cond b (home_beside all d (parameters_of (from_taker d.by d.scopes))) (taker d)) e)

-- ---- named

-- a binding gets a text, or keeps what it has
pub record Renames (binding : ℕ) (text : Option Text) (old new : Names) : Type 0 where
  pub own : binding_text new binding ≡ option_or text (binding_text old binding)
  pub others : (number : ℕ) → (number ≡ binding → ⊥) → binding_text new number ≡ binding_text old number
  pub contexts : (number : ℕ) → context_of new number ≡ context_of old number
  pub texts_len : length new.texts.items ≡ length old.texts.items
  pub contexts_len : length new.contexts.items ≡ length old.contexts.items

pub renames-none : (binding : ℕ) (names : Names) → Renames binding None names names
renames-none binding names = record { own = refl; others = λ number ne. refl; contexts = λ number. refl; texts_len = refl; contexts_len = refl }

-- how far bindings were named
pub record IsNamedTo (facts : Facts) (keywords : Names) (places : List Place) (n : ℕ) (hygiene : Hygiene) (names : Names) : Type 0 where
  pub in_turn : AreInTurn facts.homes facts.occurrences places
  pub turns : List Turn
  pub same : map (λ (turn : Turn). turn.binding) turns ≡ map (λ (place : Place). place.2) (take n places)
  pub called : AreCalledAfter facts keywords turns names
  pub knows : Knows facts turns hygiene
  pub texts : length names.texts.items ≡ length facts.homes
  pub contexts : length names.contexts.items ≡ length facts.homes

pub named-first : (facts : Facts) (keywords : Names) (places : List Place) (hygiene : Hygiene) (names : Names) → AreInTurn facts.homes facts.occurrences places → Knows facts [] hygiene → ((number : ℕ) → number < length facts.homes → binding_text names number ≡ binding_text keywords number) → ((number : ℕ) → number < length facts.homes → context_of names number ≡ context_of keywords number) → length names.texts.items ≡ length facts.homes → length names.contexts.items ≡ length facts.homes → IsNamedTo facts keywords places 0 hygiene names
named-first facts keywords places hygiene names in_turn knows texts contexts texts_len contexts_len = record {
  in_turn = in_turn;
  turns = [];
  same = refl;
  called = record { right = λ i turn at. absurd (none-some turn at); texts = λ i turn at. absurd (none-some turn at); others = λ number lt none. texts number lt; contexts = contexts };
  knows = knows;
  texts = texts_len;
  contexts = contexts_len;
}

-- what has its turn now had none before
fresh : (facts : Facts) (places : List Place) (n : ℕ) (place : Place) (turns : List Turn) → AreInTurn facts.homes facts.occurrences places → slice_get places n ≡ Some place → map (λ (turn : Turn). turn.binding) turns ≡ map (λ (place : Place). place.2) (take n places) → (i : ℕ) (turn : Turn) → slice_get turns i ≡ Some turn → turn.binding ≡ place.2 → ⊥
fresh facts places n place turns in_turn at same i turn at_i e = by (slice_get (take n places) i) refl (sym (slice_get-map (λ (place : Place). place.2) (take n places) i) ∙ sym (ap (λ l. slice_get l i) same) ∙ slice_get-map (λ (turn : Turn). turn.binding) turns i ∙ ap (option_map (λ (turn : Turn). turn.binding)) at_i)
  where
    apart : (i n : ℕ) → i ≡ n → i < n → ⊥
    apart i n e lt = omega arith

    by : (o : Option Place) → slice_get (take n places) i ≡ o → option_map (λ (place : Place). place.2) o ≡ Some turn.binding → ⊥
    by None at_o is = none-some turn.binding is
    by (Some other) at_o is = apart i n (in_turn.once i n other place (taken places n i other at_o) at (same_Some other.2 turn.binding is ∙ e)) (below places n i other at_o)
      where
        taken : (xs : List Place) (n i : ℕ) (x : Place) → slice_get (take n xs) i ≡ Some x → slice_get xs i ≡ Some x
        taken xs zero i x at = absurd (none-some x at)
        taken [] (suc n) i x at = absurd (none-some x at)
        taken (y ∷ ys) (suc n) zero x at = at
        taken (y ∷ ys) (suc n) (suc i) x at = taken ys n i x at

        below : (xs : List Place) (n i : ℕ) (x : Place) → slice_get (take n xs) i ≡ Some x → i < n
        below xs zero i x at = absurd (none-some x at)
        below [] (suc n) i x at = absurd (none-some x at)
        below (y ∷ ys) (suc n) zero x at = omega arith
        below (y ∷ ys) (suc n) (suc i) x at = let lt : i < n = below ys n i x at in omega arith

text-next : (facts : Facts) (keywords : Names) (turn : Turn) → option_or (text_given facts turn) (binding_text keywords turn.binding) ≡ text_by facts keywords turn
text-next facts keywords turn = by (keeps_symbol turn)
  where
    by : (b : Bool) → option_or (cond b None (Some (numbered (binding_symbol facts turn.binding) turn.number))) (binding_text keywords turn.binding) ≡ cond b (binding_text keywords turn.binding) (Some (numbered (binding_symbol facts turn.binding) turn.number))
    by true = refl
    by false = refl

pub named-next : (facts : Facts) (keywords : Names) (places : List Place) (n : ℕ) (place : Place) (old new : Hygiene) (names renamed : Names) (text : Option Text) → (known : IsNamedTo facts keywords places n old names) → slice_get places n ≡ Some place → Renames place.2 text names renamed → (turn : Turn) → turn.binding ≡ place.2 → is_right facts known.turns turn ≡ true → Knows facts (known.turns ++ turn ∷ []) new → text ≡ text_given facts turn → IsNamedTo facts keywords places (suc n) new renamed
named-next facts keywords places n place old new names renamed text known at renames turn is_binding right knows is_text = record {
  in_turn = known.in_turn;
  turns = known.turns ++ turn ∷ [];
  same = map-append (λ (turn : Turn). turn.binding) known.turns (turn ∷ []) ∙ ap₂ (λ (a : List ℕ) (b : List ℕ). a ++ b) known.same (ap (λ x. x ∷ []) is_binding) ∙ sym (map-append (λ (place : Place). place.2) (take n places) (place ∷ [])) ∙ ap (map (λ (place : Place). place.2)) (sym (take_at places n place at));
  called = record {
    right = λ i t at_t. ⊎_elim (λ here. ap (λ l. is_right facts l t) (take-append-le i known.turns (turn ∷ []) (let lt : i < length known.turns = slice_get_within known.turns i t here in omega arith)) ∙ known.called.right i t here) (λ last. ap₂ (λ (l : List Turn) (x : Turn). is_right facts l x) (ap (λ k. take k (known.turns ++ turn ∷ [])) last.0 ∙ take-append-le (length known.turns) known.turns (turn ∷ []) (omega arith) ∙ take_all (length known.turns) known.turns (omega arith)) (sym last.1) ∙ right) (at_append known.turns turn i t at_t);
    texts = λ i t at_t. ⊎_elim (λ here. renames.others t.binding (fresh facts places n place known.turns known.in_turn at known.same i t here) ∙ known.called.texts i t here) (λ last. subst (λ x. binding_text renamed x.binding ≡ text_by facts keywords x) last.1 own) (at_append known.turns turn i t at_t);
    others = λ number lt none. let parts = or_parts (list_any (λ (x : Turn). x.binding == number) known.turns) (turn.binding == number) (sym (any_more (λ (x : Turn). x.binding == number) known.turns turn) ∙ none) in renames.others number (λ e. eqb-false turn.binding number parts.1 (is_binding ∙ sym e)) ∙ known.called.others number lt parts.0;
    contexts = λ number lt. renames.contexts number ∙ known.called.contexts number lt;
  };
  knows = knows;
  texts = renames.texts_len ∙ known.texts;
  contexts = renames.contexts_len ∙ known.contexts;
}
  where
    lt : place.2 < length facts.homes
    lt = slice_get_within facts.homes place.2 place.0 (known.in_turn.home n place at)

    none : list_any (λ (x : Turn). x.binding == place.2) known.turns ≡ false
    none = by (list_any (λ (x : Turn). x.binding == place.2) known.turns) refl
      where
        by : (b : Bool) → list_any (λ (x : Turn). x.binding == place.2) known.turns ≡ b → b ≡ false
        by false e = refl
        by true e = let found = list_any-found_named (λ (x : Turn). x.binding == place.2) known.turns e in absurd (fresh facts places n place known.turns known.in_turn at known.same found.0 found.1 found.2 (eqb-true found.1.binding place.2 found.3))

    own : binding_text renamed turn.binding ≡ text_by facts keywords turn
    own = ap (binding_text renamed) is_binding ∙ renames.own ∙ ap₂ option_or is_text (known.called.others place.2 lt none ∙ ap (binding_text keywords) (sym is_binding)) ∙ text-next facts keywords turn

-- ---- word
other-length : (sym_ word : Text) (n : ℕ) → length sym_ ≡ n → (length word == n) ≡ false → bytes_eq sym_ word ≡ false
other-length sym_ word n is apart = either (bytes_eq sym_ word) (λ same. absurd (false≢true (sym apart ∙ eq-eqb (length word) n (ap length (sym (bytes_same sym_ word same)) ∙ is)))) (λ e. e)

-- a text is one of those words that have its length, if it is one of them
pub of-length : (text : Text) (n : ℕ) (words : List Text) → length text ≡ n → list_any (bytes_eq text) (filter (λ word. length word == n) words) ≡ list_any (bytes_eq text) words
of-length text n [] is = refl
of-length text n (word ∷ words) is = by (length word == n) refl (of-length text n words is)
  where
    by : (b : Bool) → (length word == n) ≡ b → list_any (bytes_eq text) (filter (λ word. length word == n) words) ≡ list_any (bytes_eq text) words → list_any (bytes_eq text) (cond b (word ∷ filter (λ word. length word == n) words) (filter (λ word. length word == n) words)) ≡ (bytes_eq text word || list_any (bytes_eq text) words)
    by true e rest = ap (λ b. bytes_eq text word || b) rest
    by false e rest = rest ∙ ap (λ b. b || list_any (bytes_eq text) words) (sym (other-length text word n is e))

-- a text is none of some words whose lengths pass a test that its own does not
pub no-such-length : (test : ℕ → Bool) (text : Text) (words : List Text) → list_any (λ word. not (test (length word))) words ≡ false → test (length text) ≡ false → list_any (bytes_eq text) words ≡ false
no-such-length test text [] all none = refl
no-such-length test text (word ∷ words) all none =
    let parts = or_parts (not (test (length word))) (list_any (λ word. not (test (length word))) words) all in
    ap₂ (λ (a : Bool) (b : Bool). a || b) (either (bytes_eq text word) (λ same. absurd (apart (test (length word)) parts.0 (ap (λ t. test (length t)) (sym (bytes_same text word same)) ∙ none))) (λ e. e)) (no-such-length test text words parts.1 none)
  where
    apart : (b : Bool) → not b ≡ false → b ≡ false → ⊥
    apart true e f = false≢true (sym f)
    apart false e f = false≢true (sym e)

-- the lengths of keywords
abbrev pub is_length : ℕ → Bool
is_length n = 2 == n || (3 == n || (4 == n || (5 == n || (6 == n || (7 == n || (8 == n || (9 == n || (10 == n || (12 == n)))))))))

pub no-length : (n : ℕ) → (2 == n) ≡ false → (3 == n) ≡ false → (4 == n) ≡ false → (5 == n) ≡ false → (6 == n) ≡ false → (7 == n) ≡ false → (8 == n) ≡ false → (9 == n) ≡ false → (10 == n) ≡ false → (12 == n) ≡ false → is_length n ≡ false
no-length n e2 e3 e4 e5 e6 e7 e8 e9 e10 e12 =
    ap (λ b. b || (3 == n || (4 == n || (5 == n || (6 == n || (7 == n || (8 == n || (9 == n || (10 == n || (12 == n)))))))))) e2
    ∙ ap (λ b. b || (4 == n || (5 == n || (6 == n || (7 == n || (8 == n || (9 == n || (10 == n || (12 == n))))))))) e3
    ∙ ap (λ b. b || (5 == n || (6 == n || (7 == n || (8 == n || (9 == n || (10 == n || (12 == n)))))))) e4
    ∙ ap (λ b. b || (6 == n || (7 == n || (8 == n || (9 == n || (10 == n || (12 == n))))))) e5
    ∙ ap (λ b. b || (7 == n || (8 == n || (9 == n || (10 == n || (12 == n)))))) e6
    ∙ ap (λ b. b || (8 == n || (9 == n || (10 == n || (12 == n))))) e7
    ∙ ap (λ b. b || (9 == n || (10 == n || (12 == n)))) e8
    ∙ ap (λ b. b || (10 == n || (12 == n))) e9
    ∙ ap (λ b. b || (12 == n)) e10
    ∙ e12
