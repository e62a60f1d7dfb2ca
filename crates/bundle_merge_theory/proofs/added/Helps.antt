-- The helper of load functions, by itself.
use Rattle.std.proofs.Common.{◌≡◌, ◌↔◌, ℕ, ◌==◌, Bool, true, List, [], ◌∷◌, Option, map, slice_get, codes, bytes_eq, refl, ap, sym, ◌∙◌, subst, eq-eqb}
use Rattle.std.specs.Prelude.{position}
use Rattle.std.specs.List.{AllZip}
use Rattle.std.proofs.lemmas.Bool.{false≢true, and_parts, eqb-true}
use Rattle.std.proofs.lemmas.Slice.Eq.{bytes_eq-Decides}
use Rattle.bundle_syntax.specs.Item.{Item}
use Rattle.bundle_rules.specs.Places.{Occurrence, occurrences_from}
use Rattle.bundle_rules.specs.Scopes.{Top}
use Rattle.bundle_rules.specs.Declarations.{ByContext, name_of}
use Rattle.bundle_rules.specs.Denotes.{Denoted, SameIdent, is_written_in}
use Rattle.bundle_rules.specs.Idents.{Ident, ident_of}
use Rattle.bundle_rules.specs.Symbols.{denoted_symbol}
use Rattle.bundle_rules.specs.Injected as i
use Rattle.bundle_rules.specs.Mentions.{same_denoted, each_denoted_once}
use Rattle.bundle_rules.specs.Program.{Program}
use Rattle.bundle_rules.specs.Meaning.{Label, Helper, Meant, Known, Inside, is_inside}
use Rattle.bundle_rules.specs.Bundle.{Helps, Defines, AsModule, Hooks, IsDue, helps as helps_due}
use Rattle.bundle_merge_theory.specs.joined.Joined.{own_declared}
use Rattle.bundle_merge_theory.specs.joined.Notes.{own_denoted, is_inner_denoted, is_inner_name, IsResolvedInside}
use Rattle.bundle_merge_theory.proofs.walked.Loading.{helper_marked, helper_lone}
use Rattle.bundle_merge_theory.specs.composed.Noted.{AsWhole, as_whole, helps, first_spot}
use Rattle.bundle_merge_theory.specs.composed.Functions.{whole_form}
use Rattle.bundle_merge_theory.specs.made.Given.{HookAnswer, BundleContexts, NameOf, HelperParameter, HelperVariable, ident_of_label}
use Rattle.bundle_merge_theory.specs.loaded.Pieces.{is_told_inside, told_inside, own_from}
use Rattle.bundle_merge_theory.proofs.loaded.Theorem.{told-filtered}
use Rattle.bundle_merge_theory.specs.made.Alone.{DeclaresLabel, adds, helps as adds_helper, parameter, variable, helps_parameter, helps_variable, NameAlone, inside, of_top, IsItemAlone}
use Rattle.bundle_merge_theory.proofs.added.Rows.{occurrences-item, fit-one, fit-single}
use Rattle.bundle_link.proofs.NumberedModuleLemmas.{zip_left as zip-at}
use Rattle.bundle_merge_theory.proofs.added.Helper.{Part, ItsName, ItsParameter, ItsVariable, its_parts, helper_item, part_ident, part_denotes, IsOf, helper-named, helper-parts, inside_it, helper-inside, parameter-at, variable-at, name-outside, top-is, helper-fits}

-- what a part of the helper means
abbrev part_means : Part → Meant
part_means ItsName = Known Helper
part_means ItsParameter = Inside 0
part_means ItsVariable = Inside 1

helps-not : (c : ℕ) → Helps ≡ Defines c → ⊥
helps-not c e = cc

-- the two bindings inside have other symbols
symbols-apart : codes "fn" ≡ codes "module" → ⊥
symbols-apart e = false≢true (ap (λ x. bytes_eq x (codes "module")) e)

abbrev is_name : List ℕ → Bool
is_name x = bytes_eq x (codes "__swcpack_require__")

-- Its inner bindings are told apart.
module _ (a b c : ℕ) where
  -- parts by their identifiers
  by-ident : (part other : Part) → is_inner_denoted (part_denotes a b c part) ≡ true →
      (part_ident a b c part).0 ≡ (part_ident a b c other).0 → part ≡ other
  by-ident ItsName other inner e = absurd (false≢true inner)
  by-ident ItsParameter ItsName inner e = absurd (false≢true (ap is_name e))
  by-ident ItsParameter ItsParameter inner e = refl
  by-ident ItsParameter ItsVariable inner e = absurd (symbols-apart e)
  by-ident ItsVariable ItsName inner e = absurd (false≢true (ap is_name e))
  by-ident ItsVariable ItsParameter inner e = absurd (symbols-apart (sym e))
  by-ident ItsVariable ItsVariable inner e = refl

  symbol-of : (part : Part) → denoted_symbol (part_denotes a b c part) ≡ (part_ident a b c part).0
  symbol-of ItsName = refl
  symbol-of ItsParameter = refl
  symbol-of ItsVariable = refl

  same-parts : (x y : Occurrence) (part other : Part) → IsOf a b c x part → IsOf a b c y other →
      is_inner_denoted (part_denotes a b c part) ≡ true →
      SameIdent x y ↔ (own_denoted (helper_item a b c) x ≡ own_denoted (helper_item a b c) y)
  same-parts x y part other one two inner = (
    λ same. one.denotes
        ∙ ap (part_denotes a b c)
        (by-ident part other inner
        (ap (λ (j : Ident). j.0) (sym one.ident) ∙ same.0 ∙ ap (λ (j : Ident). j.0) two.ident))
        ∙ sym two.denotes,
    λ e. let is : part ≡ other =
        by-ident part other inner
        (sym (symbol-of part)
        ∙ ap denoted_symbol (sym one.denotes ∙ e ∙ two.denotes)
        ∙ symbol-of other) in
        let idents : ident_of x ≡ ident_of y =
        one.ident ∙ ap (part_ident a b c) is ∙ sym two.ident in
        (ap (λ (j : Ident). j.0) idents, ap (λ (j : Ident). j.1) idents),
  )

  pub helper-resolved : IsResolvedInside (helper_item a b c)
  helper-resolved = record {
    same = λ x y lx ly inner.
        let os : List Occurrence = occurrences_from first_spot (helper_item a b c) in
        let one =
        zip-at (IsOf a b c) os its_parts (helper-parts a b c) lx.0 x
        (ap (λ l. slice_get l lx.0) (sym (occurrences-item (helper_item a b c))) ∙ lx.1) in
        let two =
        zip-at (IsOf a b c) os its_parts (helper-parts a b c) ly.0 y
        (ap (λ l. slice_get l ly.0) (sym (occurrences-item (helper_item a b c))) ∙ ly.1) in
        same-parts x y one.0 two.0 one.1 two.1 (sym (ap is_inner_denoted (one.1).denotes) ∙ inner);
  }

-- what is inside is told to be so
module _ (a b c : ℕ) where
  part-so : (o : Occurrence) (part : Part) → IsOf a b c o part →
      is_inside 1 (own_denoted (helper_item a b c) o) ≡ is_told_inside (part_means part)
  part-so o ItsName it = ap (is_inside 1) it.denotes
  part-so o ItsParameter it = ap (is_inside 1) it.denotes
  part-so o ItsVariable it = ap (is_inside 1) it.denotes

  parts-so : (os : List Occurrence) (parts : List Part) → AllZip (IsOf a b c) os parts →
      AllZip (λ v meant. is_inside 1 v ≡ is_told_inside meant)
      (map (own_denoted (helper_item a b c)) os) (map part_means parts)
  parts-so [] [] all = tt
  parts-so [] (part ∷ parts) all = absurd all
  parts-so (o ∷ os) [] all = absurd all
  parts-so (o ∷ os) (part ∷ parts) all = (part-so o part all.0, parts-so os parts all.1)

  helper-told : each_denoted_once
      (told_inside (own_from (helper_item a b c) first_spot (helper_item a b c))
      (map part_means its_parts))
      ≡ inside_it a b c
  helper-told =
      sym (ap each_denoted_once
      (told-filtered (is_inside 1) (own_from (helper_item a b c) first_spot (helper_item a b c))
      (map part_means its_parts)
      (parts-so (occurrences_from first_spot (helper_item a b c)) its_parts (helper-parts a b c))))
      ∙ helper-inside a b c

-- The item.
module _ (p : Program) (hooks : Hooks) (list : List ℕ) (context : BundleContexts)
    (answers : ℕ → Option HookAnswer) where
  abbrev its : List Item
  its = helper_item (context (NameOf Helper)) (context HelperParameter) (context HelperVariable)

  abbrev its_inside : List Denoted
  its_inside = inside_it (context (NameOf Helper)) (context HelperParameter)
      (context HelperVariable)

  part-alone : IsDue p AsModule Helps → (o : Occurrence) (part : Part) →
      IsOf (context (NameOf Helper)) (context HelperParameter) (context HelperVariable) o part →
      NameAlone p list context answers Helps its 1 its_inside o (part_means part)
  part-alone due o ItsName it =
      of_top (ap (λ (j : Ident). is_inner_name (own_declared its) (name_of ByContext j.0 j.1)) it.ident
      ∙ name-outside (context (NameOf Helper)) (context HelperParameter) (context HelperVariable))
      (λ c e. absurd (helps-not c e))
      (record { cause = Helps; due = due; declares = adds adds_helper }) it.ident
  part-alone (helps_due {c = k} reached common) o ItsParameter it =
      inside HelperParameter (ap is_inner_denoted it.denotes) (ap (is_inside 1) it.denotes)
      (ap (λ d. position (same_denoted d) its_inside) it.denotes
      ∙ parameter-at (context (NameOf Helper)) (context HelperParameter) (context HelperVariable))
      helps_parameter (λ c e is. absurd (helps-not c e)) (parameter k reached common)
      (ap (λ (j : Ident). j.1) it.ident)
  part-alone (helps_due {c = k} reached common) o ItsVariable it =
      inside HelperVariable (ap is_inner_denoted it.denotes) (ap (is_inside 1) it.denotes)
      (ap (λ d. position (same_denoted d) its_inside) it.denotes
      ∙ variable-at (context (NameOf Helper)) (context HelperParameter) (context HelperVariable))
      helps_variable (λ c e is. absurd (helps-not c e)) (variable k reached common)
      (ap (λ (j : Ident). j.1) it.ident)

  all-alone : IsDue p AsModule Helps → (os : List Occurrence) (parts : List Part) →
      AllZip (IsOf (context (NameOf Helper)) (context HelperParameter) (context HelperVariable)) os
      parts →
      AllZip (NameAlone p list context answers Helps its 1 its_inside) os (map part_means parts)
  all-alone due [] [] all = tt
  all-alone due [] (part ∷ parts) all = absurd all
  all-alone due (o ∷ os) [] all = absurd all
  all-alone due (o ∷ os) (part ∷ parts) all =
      (part-alone due o part all.0, all-alone due os parts all.1)

  declares : (label : Label) → DeclaresLabel p Helps label →
      is_written_in (own_declared its) Top
      (name_of ByContext (ident_of_label p list context label).0
      (ident_of_label p list context label).1)
      ≡ true
  declares label (adds adds_helper) =
      top-is (context (NameOf Helper)) (context HelperParameter) (context HelperVariable)
      (codes "__swcpack_require__") (context (NameOf Helper))
      ∙ eq-eqb (context (NameOf Helper)) (context (NameOf Helper)) refl

  pub helps-alone : IsDue p AsModule Helps → IsItemAlone p hooks list context answers Helps its
  helps-alone due =
      let a : ℕ = context (NameOf Helper) in
      let b : ℕ = context HelperParameter in
      let c : ℕ = context HelperVariable in
      let marked =
      helper_marked (codes "__swcpack_require__", a) (codes "fn", b) (codes "module", c) in
      record {
        noted = AsWhole (map part_means its_parts, i.helper_function);
        stands = as_whole marked helps;
        names =
            subst
            (λ inner. AllZip (NameAlone p list context answers Helps its 1 inner)
            (occurrences_from first_spot its) (map part_means its_parts))
            (sym (helper-told a b c))
            (all-alone due (occurrences_from first_spot its) its_parts (helper-parts a b c));
        called = ap (map denoted_symbol) (helper-told a b c);
        form = whole_form marked;
        one = fit-one (helper-fits a b c);
        lone = helper_lone (codes "__swcpack_require__", a) (codes "fn", b) (codes "module", c);
        named = helper-named a b c;
        single = fit-single (helper-fits a b c);
        fit = helper-fits a b c;
        inner = λ x y lx ly is also. (helper-resolved a b c).same x y lx ly is.is;
        declares = declares;
        declared = λ x k is.
            let both =
            and_parts (bytes_eq (codes "__swcpack_require__") x) (a == k)
            (sym (top-is a b c x k) ∙ is) in
            let first : codes "__swcpack_require__" ≡ x =
            (bytes_eq-Decides (codes "__swcpack_require__") x).0 both.0 in
            let second : a ≡ k = eqb-true a k both.1 in
            (Helper, adds adds_helper, λ t. (sym first t, sym second t));
      }
