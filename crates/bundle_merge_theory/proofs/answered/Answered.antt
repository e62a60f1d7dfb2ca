-- What is shown of the item that stands for the `import.meta` of a module.
use Rattle.std.proofs.Common.{◌≡◌, ◌⊎◌, inl, inr, ℕ, ◌==◌, ◌&&◌, ◌||◌, Bool, true, false, cond, not, List, [], ◌∷◌, ◌++◌, Option, None, Some, filter, map, bytes_eq, unwrap_or, le-leb, arith, refl, ap, sym, ◌∙◌, subst, ne_eqb}
use Rattle.std.specs.Prelude.{Contains, position}
use Rattle.std.specs.List.{AllZip, cons_option}
use Rattle.std.proofs.lemmas.Bool.{and_parts, eqb-true}
use Rattle.std.proofs.lemmas.Slice.Eq.{bytes_eq-Decides}
use Rattle.bundle_syntax.specs.declared.piece.Role.TheVariants as r
use Rattle.bundle_syntax.specs.Item as h
use Rattle.bundle_syntax.specs.Item.{Item}
use Rattle.bundle_rules.specs.Places.{Occurrence, is_binding, occurrences_from}
use Rattle.bundle_rules.specs.Scopes.{Es, Top, Inner, scopes_around}
use Rattle.bundle_rules.specs.Declarations.{Way, ByContext, name_of, names_agree, Declared, declared_by, way_of}
use Rattle.bundle_rules.specs.Homes.{home_of, is_top}
use Rattle.bundle_rules.specs.Denotes.{Denoted, Bound, is_written_in}
use Rattle.bundle_rules.specs.Idents.{Ident}
use Rattle.bundle_rules.specs.Injected as i
use Rattle.bundle_rules.specs.Mentions.{same_denoted, each_denoted_once}
use Rattle.bundle_rules.specs.Nodes.{Text}
use Rattle.bundle_rules.specs.Program.{Program}
use Rattle.bundle_rules.specs.Symbols.{denoted_symbol}
use Rattle.bundle_rules.specs.Meaning.{Label, Meta, Inside, Known, Unbound, Mark, plain, is_inside}
use Rattle.bundle_rules.specs.Bundle.{Defines, HoldsMeta, Hooks}
use Rattle.bundle_tree_places.specs.Edits.{node}
use Rattle.bundle_merge_injected.specs.Listed as l
use Rattle.bundle_scope_names.specs.fit.Sorts.{AnItem}
use Rattle.bundle_scope_names.specs.fit.Fits.{no_more, over, a_name, a_node, IsFit}
use Rattle.bundle_scope_names.specs.fit.Fits as f
use Rattle.bundle_merge_theory.specs.joined.Joined.{AllOf, own_declared}
use Rattle.bundle_merge_theory.specs.joined.Notes.{its_name, own_denoted, is_inner_denoted, is_inner_name}
use Rattle.bundle_merge_theory.proofs.joined.Declarations.{declared_by_names}
use Rattle.bundle_merge_theory.proofs.joined.Paths.{any-none}
use Rattle.bundle_merge_theory.proofs.joined.Notes.{agrees-itself}
use Rattle.bundle_merge_theory.proofs.walked.Loading.{meta_lone}
use Rattle.bundle_merge_theory.proofs.walked.NameLemmas.{numbers_agree}
use Rattle.bundle_merge_theory.specs.composed.Noted.{AsWhole, as_whole, holds_meta, first_spot}
use Rattle.bundle_merge_theory.specs.composed.Names.{own_from}
use Rattle.bundle_merge_theory.specs.composed.Functions.{whole_form}
use Rattle.bundle_merge_theory.proofs.fit.Facts.{are_own}
use Rattle.bundle_merge_theory.specs.loaded.Pieces.{is_told_inside, told_inside}
use Rattle.bundle_merge_theory.proofs.loaded.Theorem.{told-filtered}
use Rattle.bundle_merge_theory.specs.made.Given.{HookAnswer, BundleContexts, ident_of_label}
use Rattle.bundle_merge_theory.specs.made.Alone.{DeclaresLabel, adds, holds_meta as adds_meta, NameAlone, inside, of_top, free, IsItemAlone}
use Rattle.bundle_merge_theory.proofs.added.Rows.{fit-one, fit-single}
use Rattle.bundle_merge_theory.proofs.answered.Marks.{its_names, its_inner, inner-names, meant_of, its_meants, numbered-inside, object-marked, properties-mean}
use Rattle.bundle_link_index.proofs.ProgramLemmas.{got_there as listed-contains}
use Rattle.bundle_merge_theory.proofs.answered.Inward.{constant_at, inner-more}
use Rattle.bundle_merge_theory.proofs.answered.Properties.{Answering}
use Rattle.bundle_merge_theory.proofs.answered.Denoting as d
use Rattle.bundle_merge_theory.proofs.answered.Naming.{Becomes, becomes, InsideAt, FreeAt, classify, one-to-one, differs, unheld, unbound-arguments, alike-none}
use Rattle.bundle_merge_theory.proofs.answered.Resolved as s

module _ (list : List ℕ) {p : Program} {hooks : Hooks} {context : BundleContexts}
    {answers : ℕ → Option HookAnswer} {m : ℕ} {properties within : List Item}
    (facts : Answering p hooks context answers m properties within) where
  abbrev Beside : Occurrence → Occurrence → Type 0
  Beside o u = d.IsBeside list facts o u

  abbrev the_item : List Item
  the_item = d.item list facts

  abbrev its_os : List Occurrence
  its_os = d.os list facts

  abbrev its_us : List Occurrence
  its_us = d.us list facts

  abbrev its_es : List Declared
  its_es = d.es list facts

  abbrev the_first : Occurrence
  the_first = d.first list facts

  abbrev there : Occurrence → Denoted
  there o = d.denoted_there list facts o

  abbrev name_ident : Ident
  name_ident = ident_of_label p list context (Meta m)

  abbrev Turns : Denoted → Denoted → Type 0
  Turns a b = Becomes list facts a b

  all-beside : AllZip Beside its_os its_us
  all-beside = d.all-beside list facts

  declared-are : own_declared the_item ≡ constant_at 4 name_ident ∷ its_es
  declared-are = d.item-declared list facts

  -- its bindings inside
  abbrev its_inside : List Denoted
  its_inside = each_denoted_once (filter (is_inside 1) (own_from the_item first_spot the_item))

  inside-is : its_inside ≡ each_denoted_once (filter (is_inside 1) (map
      (own_denoted the_item) its_us))
  inside-is =
      ap each_denoted_once
      (s.object-inner list facts)

  -- a binding has the number that it had
  same-number : (a b : Denoted) → Turns a b →
      position (same_denoted a) (its_inner properties) ≡ position (same_denoted b) its_inside
  same-number a b turns =
      ap (position (same_denoted a)) (inner-names properties)
      ∙ numbers_agree Turns
      (one-to-one list facts)
      (filter (is_inside 0) (map there its_os))
      (filter (is_inside 1) (map (own_denoted the_item) its_us))
      (s.inner-turn list facts)
      a b turns
      ∙ ap (position (same_denoted b)) (sym inside-is)

  meta-not : (c : ℕ) → HoldsMeta m ≡ Defines c → ⊥
  meta-not c e = cc

  -- each name by itself
  name-alone : (o u : Occurrence) → Beside o u →
      NameAlone p list context answers (HoldsMeta m) the_item 1 its_inside u
      (meant_of properties (there o))
  name-alone o u it =
      by (classify list facts o u it)
    where
      contains : Contains (its_names properties) (there o)
      contains = listed-contains (its_names properties) it.listed.0 (there o) it.listed.1

      symbols : u.sym ≡ o.sym
      symbols = ap (λ (j : Ident). j.0) it.made.ident

      by : InsideAt list facts o u
          ⊎ FreeAt list facts o u →
          NameAlone p list context answers (HoldsMeta m) the_item 1 its_inside u
          (meant_of properties (there o))
      by (inl at) =
          let is_in : is_inside 0 (there o) ≡ true =
          ap (is_inside 0) at.before ∙ le-leb 0 at.from (omega arith) in
          let number = numbered-inside properties (there o) contains is_in in
          let turns : Turns (there o) (own_denoted the_item u) =
          subst (λ a. Turns a (own_denoted the_item u)) (sym at.before)
          (subst (λ b. Turns (Bound (Inner at.kind at.from) (plain o.sym)) b) (sym at.after)
          (becomes at.goes)) in
          let means : meant_of properties (there o) ≡ Inside number.0 =
          ap (meant_of properties) at.before
          ∙ ap Inside
          (ap (λ a. unwrap_or (position (same_denoted a) (its_inner properties)) 0) (sym at.before)
          ∙ ap (λ (k : Option ℕ). unwrap_or k 0) number.1) in
          let far = facts.its.from_seven at.from at.to at.goes in
          subst (NameAlone p list context answers (HoldsMeta m) the_item 1 its_inside u) (sym means)
          (inside (facts.holder at.from o.sym) (ap is_inner_denoted at.after)
          (ap (is_inside 1) at.after ∙ le-leb 1 at.to (omega (arith, far)))
          (sym (same-number (there o) (own_denoted the_item u) turns) ∙ number.1)
          at.owns (λ c e is. absurd (meta-not c e)) at.holds at.ctxt)
      by (inr at) =
          subst (NameAlone p list context answers (HoldsMeta m) the_item 1 its_inside u)
          (ap Unbound symbols ∙ sym (ap (meant_of properties) at.before))
          (free at.ctxt
          (subst (λ c. is_inner_name (own_declared the_item) (name_of ByContext u.sym c) ≡ false)
          (sym at.ctxt)
          (unheld list facts u.sym all-beside))
          (λ is.
          alike-none _ (scopes_around Es o.path) (scopes_around Es u.path) it.made.scopes
          (unbound-arguments list facts o at.before (sym symbols ∙ is))))

  all-alone : (os us : List Occurrence) → AllZip Beside os us →
      AllZip (NameAlone p list context answers (HoldsMeta m) the_item 1 its_inside) us
      (map (meant_of properties) (map there os))
  all-alone [] [] all = tt
  all-alone [] (u ∷ us) all = absurd all
  all-alone (o ∷ os) [] all = absurd all
  all-alone (o ∷ os) (u ∷ us) all = (name-alone o u all.0, all-alone os us all.1)

  -- what is inside is told to be so
  name-so : (o u : Occurrence) → Beside o u →
      is_inside 1 (own_denoted the_item u) ≡ is_told_inside (meant_of properties (there o))
  name-so o u it = by (classify list facts o u it)
    where
      by : InsideAt list facts o u
          ⊎ FreeAt list facts o u →
          is_inside 1 (own_denoted the_item u) ≡ is_told_inside (meant_of properties (there o))
      by (inl at) =
          let far = facts.its.from_seven at.from at.to at.goes in
          ap (is_inside 1) at.after
          ∙ le-leb 1 at.to (omega (arith, far))
          ∙ sym (ap (λ d. is_told_inside (meant_of properties d)) at.before)
      by (inr at) =
          ap (is_inside 1) at.after
          ∙ sym (ap (λ d. is_told_inside (meant_of properties d)) at.before)

  all-so : (os us : List Occurrence) → AllZip Beside os us →
      AllZip (λ v meant. is_inside 1 v ≡ is_told_inside meant) (map (own_denoted the_item) us)
      (map (meant_of properties) (map there os))
  all-so [] [] all = tt
  all-so [] (u ∷ us) all = absurd all
  all-so (o ∷ os) [] all = absurd all
  all-so (o ∷ os) (u ∷ us) all = (name-so o u all.0, all-so os us all.1)

  inside-told : its_inside ≡ each_denoted_once
      (told_inside (own_from the_item first_spot the_item) (Known (Meta m) ∷ its_meants properties))
  inside-told =
      ap each_denoted_once
      (s.object-inner list facts
      ∙ told-filtered (is_inside 1) (map (own_denoted the_item) its_us) (its_meants properties)
      (all-so its_os its_us all-beside)
      ∙ sym (ap (λ ds. told_inside ds (Known (Meta m) ∷ its_meants properties))
      (s.object-denotes list facts)))

  -- The object's own name.

  abbrev pub IsOther : Declared → Type 0
  IsOther e = names_agree e.name (name_of ByContext name_ident.0 name_ident.1) ≡ false

  pub others : (os us : List Occurrence) → AllZip Beside os us → AllOf IsOther (declared_by_names us)
  others [] [] all = tt
  others [] (u ∷ us) all = absurd all
  others (o ∷ os) [] all = absurd all
  others (o ∷ os) (u ∷ us) all =
      by_role (is_binding u.role) (way_of u.path) (others os us all.1)
    where
      never : (b : Bool) → (b && false) ≡ false
      never true = refl
      never false = refl

      by_role : (b : Bool) (way : Option Way) → AllOf IsOther (declared_by_names us) →
          AllOf IsOther
          (cons_option (cond b (declared_by u.place (its_name u)
          (scopes_around Es u.path) way) None)
          (declared_by_names us))
      by_role false way rest = rest
      by_role true None rest = rest
      by_role true (Some way) rest = (
        ap (λ b. bytes_eq u.sym name_ident.0 && b)
            (ne_eqb u.ctxt name_ident.1
            (λ e. differs list facts o u all.0 (sym e)))
            ∙ never (bytes_eq u.sym name_ident.0),
        rest,
      )

  first-outside : is_inner_name (own_declared the_item) (its_name the_first) ≡ false
  first-outside =
      ap (λ all. is_inner_name all (its_name the_first)) declared-are
      ∙ inner-more 4 name_ident its_es (its_name the_first)
      ∙ any-none IsOther
      (λ e. not (is_top (home_of its_es e)) && names_agree e.name (its_name the_first))
      (λ e other. ap (λ b. not (is_top (home_of its_es e)) && b) other ∙ never (not (is_top
      (home_of its_es e))))
      its_es (others its_os its_us all-beside)
    where
      never : (b : Bool) → (b && false) ≡ false
      never true = refl
      never false = refl

  -- What its top declares.

  top-is : (x : Text) (c : ℕ) →
      is_written_in (own_declared the_item) Top (name_of ByContext x c)
      ≡ (bytes_eq name_ident.0 x && (name_ident.1 == c))
  top-is x c =
      ap (λ all. is_written_in all Top (name_of ByContext x c)) declared-are
      ∙ ap (λ b. (bytes_eq name_ident.0 x && (name_ident.1 == c)) || b)
      (d.object-unwritten list facts (name_of ByContext x c))
      ∙ alone (bytes_eq name_ident.0 x && (name_ident.1 == c))
    where
      alone : (b : Bool) → (b || false) ≡ b
      alone true = refl
      alone false = refl

  declares : (label : Label) → DeclaresLabel p (HoldsMeta m) label →
      is_written_in (own_declared the_item) Top
      (name_of ByContext (ident_of_label p list context label).0
      (ident_of_label p list context label).1)
      ≡ true
  declares label (adds adds_meta) =
      top-is name_ident.0 name_ident.1 ∙ agrees-itself name_ident.0 name_ident.1

  item-fits : IsFit AnItem 0 the_item
  item-fits =
      f.node {inside = l.declarator (l.pattern_of 0 r.Binding name_ident)
      (node 1 h.ObjectLit within)} refl
      (a_node {inside = l.pattern_of 0 r.Binding name_ident ++ node 1 h.ObjectLit within} refl
      (a_node {inside = h.Ident 0 name_ident.0 name_ident.1 r.Binding ∷ []} refl
      (a_name refl no_more)
      (a_node {inside = within} refl facts.its.made_fit no_more))
      (over refl no_more))

  -- the object of `import.meta`, by itself
  pub meta-alone : IsItemAlone p hooks list context answers (HoldsMeta m) the_item
  meta-alone = record {
    noted = AsWhole (Known (Meta m) ∷ its_meants properties, i.meta_object m marks);
    stands =
        as_whole (object-marked facts.notes name_ident m properties within marks facts.its.result)
        (holds_meta properties marks facts.its.held facts.its.faultless
        (properties-mean properties facts.its.fit marks facts.its.source));
    names =
        subst
        (λ inner. AllZip (NameAlone p list context answers (HoldsMeta m) the_item 1 inner)
        (occurrences_from first_spot the_item) (Known (Meta m) ∷ its_meants properties))
        inside-told
        (subst
        (λ os. AllZip (NameAlone p list context answers (HoldsMeta m) the_item 1 its_inside) os
        (Known (Meta m) ∷ its_meants properties))
        (sym (d.item-occurrences list facts)) (
          of_top first-outside (λ c e. absurd (meta-not c e))
              (record { cause = HoldsMeta m; due = facts.due; declares = adds adds_meta }) refl,
          all-alone its_os its_us all-beside,
        ));
    called = (
      properties,
      marks,
      facts.its.held,
      properties-mean properties facts.its.fit marks facts.its.source,
      refl,
      ap (map denoted_symbol) (sym inside-told)
          ∙ s.object-called list facts
          ∙ ap (map denoted_symbol) (sym (inner-names properties)),
    );
    form =
        whole_form
        (object-marked facts.notes name_ident m properties within marks facts.its.result);
    one = fit-one item-fits;
    lone =
        meta_lone facts.notes name_ident within
        (are_own facts.its.made_fit refl);
    named = d.item-named list facts;
    single = fit-single item-fits;
    fit = item-fits;
    inner = λ a b la lb is also. (s.object-resolved list facts).same a b la lb is.is;
    declares = declares;
    declared = λ x c is.
        let both = and_parts (bytes_eq name_ident.0 x) (name_ident.1 == c) (sym (top-is x c)
        ∙ is) in
        let first : name_ident.0 ≡ x = (bytes_eq-Decides name_ident.0 x).0 both.0 in
        let second : name_ident.1 ≡ c = eqb-true name_ident.1 c both.1 in
        (Meta m, adds adds_meta, λ t. (sym first t, sym second t));
  }
    where
      marks : List Mark
      marks = facts.its.marks
