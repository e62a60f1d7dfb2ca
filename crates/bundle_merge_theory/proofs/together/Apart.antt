-- What stands only in the item of one cause stands in the item of no other.
-- Items that are right each by itself can be told apart by their symbols and contexts.
use Rattle.std.proofs.Common.{◌≡◌, Some, refl, ap, sym, subst, ◌⊎◌, inl, inr, ◌==◌, ℕ, true, false, List, [], ◌∷◌, ◌++◌, Option, ◌∙◌, arith, eq-eqb}
use Rattle.std.specs.Prelude.{Contains, slice_get, fold}
use Rattle.std.specs.List.{AllZip}
use Rattle.std.proofs.lemmas.Bool.{false≢true}
use Rattle.std.proofs.lemmas.Option.{none-some}
use Rattle.bundle_syntax.specs.Item.{Item}
use Rattle.bundle_rules.specs.Statements.{taken, own_statements}
use Rattle.bundle_rules.specs.Program.{Program, tree_of}
use Rattle.bundle_rules.specs.Linking.{IsCommonJs}
use Rattle.bundle_rules.specs.Bundle.{Cause, Own, Defines, Form, IsDue, AsModule, Hooks}
use Rattle.bundle_rules.specs.Places.{Spot, past, Occurrence, occurrences_from}
use Rattle.bundle_rules.specs.Declarations.{declared}
use Rattle.bundle_rules.specs.Denotes.{Denoted}
use Rattle.bundle_rules.specs.Sorting.{flat}
use Rattle.bundle_rules.specs.Idents.{Ident}
use Rattle.bundle_rules.specs.Meaning.{Label, Meant, Known}
use Rattle.bundle_rules.specs.Symbols.{denoted_symbol}
use Rattle.bundle_link_targets.proofs.CallPlaceLemmas.{zip-at as zip-beside}
use Rattle.bundle_merge_theory.specs.joined.Joined.{AllOf, own_declared, is_global_written}
use Rattle.bundle_merge_theory.specs.joined.Notes.{its_name, own_denoted, is_inner_name, IsListedIn, IsInnerAmong, AreItemsApart}
use Rattle.bundle_merge_theory.proofs.joined.Paths.{get-append, occurrences-append, item-occurrences}
use Rattle.bundle_merge_theory.proofs.joined.Declarations.{IsNamed as HasNames}
use Rattle.bundle_merge_theory.proofs.joined.Notes.{viewed, InnerOf, inner-of}
use Rattle.bundle_merge_theory.specs.walked.Renaming.{ItemMeaning}
use Rattle.bundle_merge_theory.specs.made.Given.{Holder, HookAnswer, BundleContexts}
use Rattle.bundle_merge_theory.specs.made.Alone
use Rattle.bundle_merge_theory.specs.made.Alone.{OwnsHolder, NameAlone, StatementAlone, StatementsAlone, FrontAlone, ItemAlone, IsInnerAlone}
use Rattle.bundle_merge_theory.proofs.together.Tables.{due-own, due-defines, holds, holder-is, holder-context, label-top, IsOwnName, inside-own, function-own, note-of, arguments-free}
use Rattle.bundle_merge_theory.proofs.together.Statements.{same-statement, StandsAt, of-item}
use Rattle.bundle_merge_theory.specs.composed.Noted.{NotedItem, AsFunction, function_ends, IsNotedFor, as_whole, as_function, first_spot}
use Rattle.bundle_merge_theory.proofs.composed.Becomings.{own-symbol}
use Rattle.bundle_merge_theory.proofs.composed.Among.{all-in}
use Rattle.bundle_merge_theory.specs.together.Together.{AreMergedTogether}

-- ---- owners

-- ONE OWNER
pub owners-one : (p : Program) (form : Form) {cause other : Cause} {h k : Holder} →
    IsDue p form cause → IsDue p form other → OwnsHolder p cause h → OwnsHolder p other k →
    h ≡ k → cause ≡ other
owners-one p form due also
    (Alone.own {m = m} {k = k} {begins = begins} {x = x} statement at there)
    (Alone.own {m = n} {k = j} {begins = place} {x = y} its_statement its_at its_there) e =
    let modules : n ≡ m = cc in
    let places : place ≡ begins = cc in
    let same : k ≡ j =
    same-statement (tree_of p m) k j begins statement its_statement x y at
    (subst (λ q. slice_get (own_statements (tree_of p q)) j ≡ Some its_statement) modules its_at)
    there (subst (λ q. Contains its_statement (taken q y)) places its_there) in
    λ i. Own (sym modules i) (same i)
owners-one p form due also (Alone.own {m = m} statement at there) (Alone.defines_inside {c = c}) e =
    let modules : c ≡ m = cc in
    absurd ((due-own p form due refl).1
    (subst (IsCommonJs p) modules (due-defines p form also refl).1))
owners-one p form due also (Alone.own statement at there) Alone.defines_top e = absurd cc
owners-one p form due also (Alone.own statement at there) Alone.holds_meta e = absurd cc
owners-one p form due also (Alone.own statement at there) Alone.holds_written e = absurd cc
owners-one p form due also (Alone.own statement at there) Alone.helps_parameter e = absurd cc
owners-one p form due also (Alone.own statement at there) Alone.helps_variable e = absurd cc
owners-one p form due also (Alone.defines_inside {c = c}) (Alone.own {m = m} statement at there) e =
    let modules : c ≡ m = cc in
    absurd ((due-own p form also refl).1
    (subst (IsCommonJs p) modules (due-defines p form due refl).1))
owners-one p form due also (Alone.defines_inside {c = c}) (Alone.defines_inside {c = d}) e =
    let modules : c ≡ d = cc in ap Defines modules
owners-one p form due also Alone.defines_inside Alone.defines_top e = absurd cc
owners-one p form due also Alone.defines_inside Alone.holds_meta e = absurd cc
owners-one p form due also Alone.defines_inside Alone.holds_written e = absurd cc
owners-one p form due also Alone.defines_inside Alone.helps_parameter e = absurd cc
owners-one p form due also Alone.defines_inside Alone.helps_variable e = absurd cc
owners-one p form due also Alone.defines_top (Alone.own statement at there) e = absurd cc
owners-one p form due also Alone.defines_top Alone.defines_inside e = absurd cc
owners-one p form due also (Alone.defines_top {c = c}) (Alone.defines_top {c = d}) e =
    let modules : c ≡ d = cc in ap Defines modules
owners-one p form due also Alone.defines_top Alone.holds_meta e = absurd cc
owners-one p form due also Alone.defines_top Alone.holds_written e = absurd cc
owners-one p form due also Alone.defines_top Alone.helps_parameter e = absurd cc
owners-one p form due also Alone.defines_top Alone.helps_variable e = absurd cc
owners-one p form due also Alone.holds_meta (Alone.own statement at there) e = absurd cc
owners-one p form due also Alone.holds_meta Alone.defines_inside e = absurd cc
owners-one p form due also Alone.holds_meta Alone.defines_top e = absurd cc
owners-one p form due also (Alone.holds_meta {m = m}) (Alone.holds_meta {m = n}) e = cc
owners-one p form due also Alone.holds_meta Alone.holds_written e = absurd cc
owners-one p form due also Alone.holds_meta Alone.helps_parameter e = absurd cc
owners-one p form due also Alone.holds_meta Alone.helps_variable e = absurd cc
owners-one p form due also Alone.holds_written (Alone.own statement at there) e = absurd cc
owners-one p form due also Alone.holds_written Alone.defines_inside e = absurd cc
owners-one p form due also Alone.holds_written Alone.defines_top e = absurd cc
owners-one p form due also Alone.holds_written Alone.holds_meta e = absurd cc
owners-one p form due also (Alone.holds_written {m = m}) (Alone.holds_written {m = n}) e = cc
owners-one p form due also Alone.holds_written Alone.helps_parameter e = absurd cc
owners-one p form due also Alone.holds_written Alone.helps_variable e = absurd cc
owners-one p form due also Alone.helps_parameter (Alone.own statement at there) e = absurd cc
owners-one p form due also Alone.helps_parameter Alone.defines_inside e = absurd cc
owners-one p form due also Alone.helps_parameter Alone.defines_top e = absurd cc
owners-one p form due also Alone.helps_parameter Alone.holds_meta e = absurd cc
owners-one p form due also Alone.helps_parameter Alone.holds_written e = absurd cc
owners-one p form due also Alone.helps_parameter Alone.helps_parameter e = refl
owners-one p form due also Alone.helps_parameter Alone.helps_variable e = refl
owners-one p form due also Alone.helps_variable (Alone.own statement at there) e = absurd cc
owners-one p form due also Alone.helps_variable Alone.defines_inside e = absurd cc
owners-one p form due also Alone.helps_variable Alone.defines_top e = absurd cc
owners-one p form due also Alone.helps_variable Alone.holds_meta e = absurd cc
owners-one p form due also Alone.helps_variable Alone.holds_written e = absurd cc
owners-one p form due also Alone.helps_variable Alone.helps_parameter e = refl
owners-one p form due also Alone.helps_variable Alone.helps_variable e = refl

-- ---- apart
module _ (p : Program) (list : List ℕ) (context : BundleContexts) (answers : ℕ → Option HookAnswer)
    (cause : Cause) (item : List Item) where
  -- what is told of a name, in a statement that begins the item or stands in a load function
  pub record NamedAt (o : Occurrence) : Type 0 where
    pub begins : ℕ
    pub all : List Denoted
    pub meant : Meant
    pub alone : NameAlone p list context answers cause item begins all o meant
    pub from : (begins ≡ 1) ⊎ ((c : ℕ) × (cause ≡ Defines c))

  in-statement : (s : Spot) (part : List Item) (told : ItemMeaning) →
      StatementAlone p list context answers cause item s part told →
      ((s.place ≡ 1) ⊎ ((c : ℕ) × (cause ≡ Defines c))) → (i : ℕ) (o : Occurrence) →
      slice_get (occurrences_from s part) i ≡ Some o → NamedAt o
  in-statement s part told alone from i o at =
      let beside = zip-beside _ (occurrences_from s part) told.0 alone i o at in
      record { begins = s.place; all = _; meant = beside.0; alone = beside.2; from = from }

  in-statements : (s : Spot) (parts : List (List Item)) (tolds : List ItemMeaning) →
      StatementsAlone p list context answers cause item s parts tolds →
      ((c : ℕ) × (cause ≡ Defines c)) → (i : ℕ) (o : Occurrence) →
      slice_get (occurrences_from s (flat parts)) i ≡ Some o → NamedAt o
  in-statements s [] [] alone from i o at = absurd (none-some o at)
  in-statements s [] (told ∷ tolds) alone from i o at = absurd alone
  in-statements s (part ∷ parts) [] alone from i o at = absurd alone
  in-statements s (part ∷ parts) (told ∷ tolds) alone from i o at =
      by (get-append (occurrences_from s part) (occurrences_from (fold past s part) (flat parts)) i
      o (ap (λ os. slice_get os i) (sym (occurrences-append s part (flat parts))) ∙ at))
      (λ j there. in-statements (fold past s part) parts tolds alone.1 from j o there)
    where
      by : (slice_get (occurrences_from s part) i ≡ Some o)
          ⊎ ((j : ℕ) × (slice_get (occurrences_from (fold past s part) (flat parts)) j ≡ Some o))
          → ((j : ℕ) → slice_get (occurrences_from (fold past s part) (flat parts)) j ≡ Some o →
          NamedAt o) → NamedAt o
      by (inl here) ih = in-statement s part told alone.0 (inr from) i o here
      by (inr later) ih = ih later.0 later.1

  in-front : (os : List Occurrence) (names : List Label) →
      AllZip (FrontAlone p list context answers cause item) os names →
      ((c : ℕ) × (cause ≡ Defines c)) → (i : ℕ) (o : Occurrence) → slice_get os i ≡ Some o →
      NamedAt o
  in-front os names alone from i o at =
      let beside = zip-beside (FrontAlone p list context answers cause item) os names alone i o at
      in
      record {
        begins = 22;
        all = [];
        meant = Known beside.0;
        alone = beside.2;
        from = inr from;
      }

  in-function : (front : List Item) (names : List Label) (insides : List (List Item))
      (tolds : List ItemMeaning) →
      ItemAlone p list context answers cause item (AsFunction front names insides tolds) →
      ((c : ℕ) × (cause ≡ Defines c)) → (i : ℕ) (o : Occurrence) →
      slice_get (occurrences_from first_spot (front ++ (flat insides ++ function_ends))) i
      ≡ Some o → NamedAt o
  in-function front names insides tolds alone from i o at =
      by (get-append (occurrences_from first_spot front)
      (occurrences_from (fold past first_spot front) (flat insides ++ function_ends)) i o
      (ap (λ os. slice_get os i)
      (sym (occurrences-append first_spot front (flat insides ++ function_ends))) ∙ at))
    where
      behind : (j : ℕ) →
          (slice_get (occurrences_from (fold past first_spot front) (flat insides)) j ≡ Some o)
          ⊎ ((k : ℕ) × (slice_get
          (occurrences_from (fold past (fold past first_spot front) (flat insides)) function_ends)
          k ≡ Some o)) → NamedAt o
      behind j (inl here) =
          in-statements (fold past first_spot front) insides tolds alone.1 from j o here
      behind j (inr later) = absurd (none-some o later.1)

      by : (slice_get (occurrences_from first_spot front) i ≡ Some o)
          ⊎ ((j : ℕ) × (slice_get
          (occurrences_from (fold past first_spot front) (flat insides ++ function_ends)) j
          ≡ Some o)) → NamedAt o
      by (inl here) = in-front (occurrences_from first_spot front) names alone.0 from i o here
      by (inr later) =
          behind later.0
          (get-append (occurrences_from (fold past first_spot front) (flat insides))
          (occurrences_from (fold past (fold past first_spot front) (flat insides)) function_ends)
          later.0 o
          (ap (λ os. slice_get os later.0)
          (sym (occurrences-append (fold past first_spot front) (flat insides) function_ends))
          ∙ later.1))

pub named-at : (p : Program) (hooks : Hooks) (list : List ℕ) (context : BundleContexts)
    (answers : ℕ → Option HookAnswer) {cause : Cause} {item : List Item} {noted : NotedItem} →
    IsNotedFor p hooks AsModule item noted cause →
    ItemAlone p list context answers cause item noted → (o : Occurrence) → IsListedIn item o →
    NamedAt p list context answers cause item o
named-at p hooks list context answers {cause = cause} {item = item} (as_whole {told = told} marked
    stand) alone o listed =
    in-statement p list context answers cause item first_spot item told alone (inl refl) listed.0 o
    (sym (ap (λ os. slice_get os listed.0) (item-occurrences item)) ∙ listed.1)
named-at p hooks list context answers (as_function {c = c} {item = item} {front = front}
    {names = names} {insides = insides} {tolds = tolds} nodes is plain states) alone o listed =
    in-function p list context answers (Defines c) item front names insides tolds alone (c, refl)
    listed.0 o
    (ap (λ l. slice_get (occurrences_from first_spot l) listed.0) (sym is)
    ∙ sym (ap (λ os. slice_get os listed.0) (item-occurrences item)) ∙ listed.1)

module _ (p : Program) (hooks : Hooks) (list : List ℕ) (context : BundleContexts)
    (answers : ℕ → Option HookAnswer) (plan : List Cause) (items : List (List Item))
    (its : AreMergedTogether p hooks list context answers plan items) where
  abbrev Stands : ℕ → Cause → List Item → Type 0
  Stands m cause item = StandsAt p hooks list context answers plan items its m cause item

  pub named-of : (m : ℕ) (cause : Cause) (item : List Item) → Stands m cause item →
      (o : Occurrence) → IsListedIn item o → NamedAt p list context answers cause item o
  named-of m cause item stands o listed =
      named-at p hooks list context answers stands.alone.stands stands.alone.names o listed

  -- a binding inside an item has a context that stands only there
  own-name : (m : ℕ) (cause : Cause) (item : List Item) → Stands m cause item →
      (o : Occurrence) → IsListedIn item o → IsInnerAmong items item o →
      IsOwnName p answers context cause o
  own-name m cause item stands o listed is =
      let at = named-of m cause item stands o listed in
      by at.begins at.all at.meant at.alone
    where
      it : InnerOf item o (own_denoted item o)
      it = inner-of item o (viewed item stands.alone.named o listed) is.is

      none : is_inner_name (own_declared item) (its_name o) ≡ false →
          (is_global_written (own_denoted item o) ≡ false → (o.ctxt == 1) ≡ false → ⊥) → ⊥
      none not_inner never = by_kind it.by
        where
          by_kind : (is_inner_name (own_declared item) (its_name o) ≡ true)
              ⊎ ((is_global_written (own_denoted item o) ≡ false) × ((o.ctxt == 1) ≡ false)) → ⊥
          by_kind (inl declared) = false≢true (sym not_inner ∙ declared)
          by_kind (inr implied) = never implied.0 implied.1

      by : (begins : ℕ) (all : List Denoted) (meant : Meant) →
          NameAlone p list context answers cause item begins all o meant →
          IsOwnName p answers context cause o
      by begins all meant (Alone.inside holder inner within found owns other holds ctxt) =
          inside-own p hooks list context answers plan items its cause stands.due item o holder
          owns other holds ctxt
      by begins all meant (Alone.of_top {l = l} not_inner never top same) =
          absurd (none not_inner (λ unwritten other. false≢true (sym (is.unless unwritten)
          ∙ label-top p hooks list context answers plan items its o l top same)))
      by begins all meant (Alone.of_function {c = c} {l = l} e out inside declared entry) =
          function-own p hooks list context answers plan items its cause stands.due item o c l e
          entry
      by begins all meant (Alone.free is_one not_inner arguments) =
          absurd (none not_inner (λ unwritten other.
          false≢true (sym other ∙ eq-eqb o.ctxt 1 is_one)))

  -- a name that has the context of what stands only in the item of a cause stands there
  same-cause : (m n : ℕ) (cause other_cause : Cause) (item other : List Item) →
      Stands m cause item → Stands n other_cause other → (a b : Occurrence) →
      IsOwnName p answers context cause a → IsListedIn other b → a.ctxt ≡ b.ctxt →
      cause ≡ other_cause
  same-cause m n cause other_cause item other stands also a b own listed same =
      let at = named-of n other_cause other also b listed in by at.begins at.all at.meant at.alone
    where
      both : IsOwnName p answers context other_cause b → cause ≡ other_cause
      both its_own =
          owners-one p AsModule stands.due also.due own.owns its_own.owns
          (its.apart.apart own.holder its_own.holder own.is its_own.is
          (sym own.its ∙ same ∙ its_own.its))

      by : (begins : ℕ) (all : List Denoted) (meant : Meant) →
          NameAlone p list context answers other_cause other begins all b meant →
          cause ≡ other_cause
      by begins all meant (Alone.inside holder inner within found owns never holds ctxt) =
          both (inside-own p hooks list context answers plan items its other_cause also.due other b
          holder owns never holds ctxt)
      by begins all meant (Alone.of_top {l = l} not_inner never top ident) =
          let held = holds p l top in
          absurd (own.never l held.0 held.1
          (its.apart.apart own.holder held.0 own.is
          (holder-is p answers held.1)
          (sym own.its ∙ same ∙ ap (λ (i : Ident). i.1) ident
          ∙ holder-context p list context held.1)))
      by begins all meant (Alone.of_function {c = c} {l = l} e out inside declared entry) =
          both (function-own p hooks list context answers plan items its other_cause also.due other
          b c l e entry)
      by begins all meant (Alone.free is_one not_inner arguments) =
          let above = its.apart.own own.holder own.is in
          let same_context : 1 ≡ context own.holder = sym is_one ∙ sym same ∙ own.its in
          absurd (omega (arith, above, same_context))

  pub all-named : AllOf HasNames items
  all-named = all-in HasNames items (λ m item at.
      let stands = of-item p hooks list context answers plan items its m item at in
      stands.1.alone.named)

  -- what is inner among the items is so in its own, where the top declares labels
  inner-alone : (item : List Item) (o : Occurrence) → IsInnerAmong items item o →
      IsInnerAlone p list context item o
  inner-alone item o inner = record {
    is = inner.is;
    unless = λ unwritten l top same.
        false≢true (sym (inner.unless unwritten)
        ∙ label-top p hooks list context answers plan items its o l top same);
  }

  -- TOLD APART
  pub are-apart : AreItemsApart items
  are-apart = record {
    noted = λ m item o at listed.
        let stands = of-item p hooks list context answers plan items its m item at in
        let named = named-of m stands.0 item stands.1 o listed in
        note-of p hooks list context answers plan items its stands.0 stands.1.due item named.begins
        named.all o named.meant named.alone;
    inside = λ m item a b at one two is also.
        let stands = of-item p hooks list context answers plan items its m item at in
        stands.1.alone.inner a b one two (inner-alone item a is) (inner-alone item b also);
    others = λ m n item other a b differ at there listed its_listed is same.
        let stands = of-item p hooks list context answers plan items its m item at in
        let also = of-item p hooks list context answers plan items its n other there in
        let own = own-name m stands.0 item stands.1 a listed is in
        let causes =
        same-cause m n stands.0 also.0 item other stands.1 also.1 a b own its_listed same.1 in
        differ (its.once m n stands.0 stands.1.cause_there
        (also.1.cause_there ∙ ap Some (sym causes)));
    own_arguments = λ m item o at listed unseen e.
        let stands = of-item p hooks list context answers plan items its m item at in
        let named = named-of m stands.0 item stands.1 o listed in
        arguments-free p hooks list context answers plan items its stands.0 stands.1.due item
        named.begins named.all o named.meant named.alone unseen e
        (sym (own-symbol (own_declared item) o) ∙ ap denoted_symbol e);
  }
