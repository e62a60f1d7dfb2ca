-- What stands in front of the statements of a CommonJS module, by its list without its names.
-- A labelling by identifiers: which bindings it labels, and that it is one to one where the tree is
-- resolved.
-- Elements in which nothing is spelled out, balanced or not: with what their names stand for they
-- mean their marks.
use Rattle.std.proofs.Common.{◌≡◌, ℕ, suc, ◌+◌, ◌&&◌, false, not, List, [], ◌∷◌, ◌++◌, None, append_assoc, length, refl, ap, ap₂, sym, ◌∙◌, subst, arith, ◌⊎◌, inl, inr, ◌==◌, true, Option, Some, option_map, find, bytes_eq, eqb-true, eq-eqb}
use Rattle.std.specs.Prelude.{fold, Contains, if◌then◌else◌, ⊤}
use Rattle.std.specs.List.{cons_option, AllZip}
use Rattle.std.proofs.lemmas.Bool.{and_parts, and_from}
use Rattle.std.proofs.lemmas.Option.{same_Some}
use Rattle.std.proofs.lemmas.Slice.Eq.{bytes_eq-Decides}
use Rattle.std.proofs.Math.Numerals.{add-one}
use Rattle.bundle_syntax.specs.declared.kind.ExportMetadata.{ExportMetadata}
use Rattle.bundle_syntax.specs.Item as h
use Rattle.bundle_syntax.specs.Item.{Item}
use Rattle.bundle_syntax.specs.declared.piece.Role.{Role}
use Rattle.bundle_order_graph.proofs.OrderLemmas.{not-true as not_is}
use Rattle.bundle_syntax.specs.declared.piece.Role.TheVariants as r
use Rattle.bundle_rules.specs.Places.{Around, Spot, past, in_field, outer_path, Occurrence, occurrences, occurrence_of}
use Rattle.bundle_rules.specs.Scopes.{Es, scopes_around}
use Rattle.bundle_rules.specs.Idents.{Ident, ident_of}
use Rattle.bundle_rules.specs.Cleared.{cleared_head, cleared_item, cleared, without_note, without_notes}
use Rattle.bundle_rules.specs.Meaning.{Label, Mark, Known, IsOneToOne, Sense, Meant, NameMeans, outside, Means, finished, begun, ended, empty, named, word}
use Rattle.bundle_rules.proofs.PathLemmas.{cleared_path, cleared_spot}
use Rattle.bundle_rules.proofs.DenotesLemmas.{scopes_around-cleared}
use Rattle.bundle_rules.specs.Declarations.{ByContext}
use Rattle.bundle_rules.specs.Denotes.{Denoted, denoted_at, IsResolved}
use Rattle.bundle_rules.proofs.PlacesLemmas.{occurrences-at}
use Rattle.bundle_rules.specs.Rebuilds.{ident_eq}
use Rattle.bundle_rules.specs.Nodes.{Text}
use Rattle.bundle_rules.specs.Shorthands.{has_default, is_shorthand_in_pattern, is_object}
use Rattle.bundle_rules.specs.Marks as k
use Rattle.bundle_rules.specs.Marks.{object_key, begin_marks, end_marks, name_marks}
use Rattle.bundle_rules.specs.Statements.{Element, taken, taken_from}
use Rattle.bundle_rules.specs.Bundle.{Labelled, sense_of}
use Rattle.bundle_scope_names.proofs.HomesLemmas.{find-passes}
use Rattle.bundle_scope_names.proofs.naming_rule.Tables.{IsIn, find-in, find-some}
use Rattle.bundle_merge_theory.specs.joined.Joined.{AllOf}
use Rattle.bundle_merge_theory.specs.walked.Names.{idents_among}
use Rattle.bundle_merge_theory.proofs.walked.Clearing.{twice}
use Rattle.bundle_merge_theory.proofs.joined.Bindings.{Contains-cons, Contains-none}
use Rattle.bundle_merge_theory.specs.noted.Agrees.{IsSpotAt}
use Rattle.bundle_merge_theory.proofs.noted.Spots.{at-past, at-path}
use Rattle.bundle_merge_theory.proofs.noted.Inner.{is_moved, begin_plain, means_as}
use Rattle.bundle_merge_theory.proofs.walked.NameLemmas.{occurrence_there}
use Rattle.bundle_merge_theory.specs.composed.Noted.{are_plain, plain_marks, HasPlainMarks, function_ends, denoted_here, denoted_from, StandsForLabel}
use Rattle.bundle_merge_theory.specs.composed.Turned.{IsScopeBelow, module_path, FrontTurned}
use Rattle.bundle_merge_theory.specs.composed.Functions.{load_function_front, load_function_items}
use Rattle.bundle_merge_theory.proofs.cleared.Marks.{shorthand-cleared as short-head, object-cleared as object-head}
use Rattle.bundle_merge_theory.specs.composed.Names.{LabelTable, IsLabelTable, denoted_in_tree, denoted_ident, labels_in}

-- ---- fronts

-- an element without its names and notes; a plain word stays
abbrev pub blank : Item → Item
blank (h.Open field head) = h.Open field (cleared_head head)
blank (h.Ident field x c r.Word) = h.Ident field x 0 r.Word
blank (h.Ident field x c role) = h.Ident field [] 0 role
blank (h.Hole field) = h.Hole field
blank h.Close = h.Close

abbrev pub blanks : List Item → List Item
blanks [] = []
blanks (x ∷ xs) = blank x ∷ blanks xs

-- it does not depend on notes and contexts
blank-note : (x : Item) → blank (without_note x) ≡ blank x
blank-note (h.Open field head) = ap (h.Open field) (twice head)
blank-note (h.Ident field x c role) = refl
blank-note (h.Hole field) = refl
blank-note h.Close = refl

pub blanks-notes : (xs : List Item) → blanks (without_notes xs) ≡ blanks xs
blanks-notes [] = refl
blanks-notes (x ∷ xs) = λ i. blank-note x i ∷ blanks-notes xs i

blank-cleared : (x : Item) → blank (cleared_item x) ≡ blank x
blank-cleared (h.Open field head) = ap (h.Open field) (twice head)
blank-cleared (h.Ident field x c r.Word) = refl
blank-cleared (h.Ident field x c r.Binding) = refl
blank-cleared (h.Ident field x c r.Reference) = refl
blank-cleared (h.Hole field) = refl
blank-cleared h.Close = refl

pub blanks-cleared : (xs : List Item) → blanks (cleared xs) ≡ blanks xs
blanks-cleared [] = refl
blanks-cleared (x ∷ xs) = λ i. blank-cleared x i ∷ blanks-cleared xs i

-- names
blank-names : (xs : List Item) → length (idents_among (blanks xs)) ≡ length (idents_among xs)
blank-names [] = refl
blank-names (h.Open field head ∷ xs) = blank-names xs
blank-names (h.Ident field x c r.Word ∷ xs) = blank-names xs
blank-names (h.Ident field x c r.Binding ∷ xs) = ap suc (blank-names xs)
blank-names (h.Ident field x c r.Reference ∷ xs) = ap suc (blank-names xs)
blank-names (h.Hole field ∷ xs) = blank-names xs
blank-names (h.Close ∷ xs) = blank-names xs

pub same-names : (xs ys : List Item) → blanks xs ≡ blanks ys →
    length (idents_among xs) ≡ length (idents_among ys)
same-names xs ys e = sym (blank-names xs) ∙ ap (λ l. length (idents_among l)) e ∙ blank-names ys

blank-plain : (xs : List Item) → are_plain (blanks xs) ≡ are_plain xs
blank-plain [] = refl
blank-plain (h.Open field head ∷ xs) =
    λ i. not (short-head head i) && (not (object-head head i) && blank-plain xs i)
blank-plain (h.Ident field x c r.Word ∷ xs) = blank-plain xs
blank-plain (h.Ident field x c r.Binding ∷ xs) = blank-plain xs
blank-plain (h.Ident field x c r.Reference ∷ xs) = blank-plain xs
blank-plain (h.Hole field ∷ xs) = blank-plain xs
blank-plain (h.Close ∷ xs) = blank-plain xs

blank-length : (xs : List Item) → length (blanks xs) ≡ length xs
blank-length [] = refl
blank-length (x ∷ xs) = ap suc (blank-length xs)

blank-marks : (xs : List Item) (names : List Label) →
    plain_marks (blanks xs) names ≡ plain_marks xs names
blank-marks [] names = refl
blank-marks (h.Open field head ∷ xs) names =
    λ i. k.Begins field (twice head i) ∷ blank-marks xs names i
blank-marks (h.Ident field x c r.Word ∷ xs) names =
    ap (λ l. k.Word field x ∷ l) (blank-marks xs names)
blank-marks (h.Ident field x c r.Binding ∷ xs) [] = refl
blank-marks (h.Ident field x c r.Binding ∷ xs) (l ∷ names) =
    ap (λ m. k.Name field (Known l) ∷ m) (blank-marks xs names)
blank-marks (h.Ident field x c r.Reference ∷ xs) [] = refl
blank-marks (h.Ident field x c r.Reference ∷ xs) (l ∷ names) =
    ap (λ m. k.Name field (Known l) ∷ m) (blank-marks xs names)
blank-marks (h.Hole field ∷ xs) names = ap (λ m. k.Empty field ∷ m) (blank-marks xs names)
blank-marks (h.Close ∷ xs) names = ap (λ m. k.Ends ∷ m) (blank-marks xs names)

pub same-marks : (xs ys : List Item) (names : List Label) (marks : List Mark) →
    blanks xs ≡ blanks ys → HasPlainMarks xs names marks → HasPlainMarks ys names marks
same-marks xs ys names marks e its = record {
  plain = sym (blank-plain ys) ∙ ap are_plain (sym e) ∙ blank-plain xs ∙ its.plain;
  its =
      sym (blank-marks ys names)
      ∙ ap (λ l. plain_marks l names) (sym e)
      ∙ blank-marks xs names
      ∙ its.its;
  long = sym (blank-length ys) ∙ ap length (sym e) ∙ blank-length xs ∙ its.long;
}

-- Spots.

field-cleared : (field : ℕ) (path : List Around) →
    cleared_path (in_field field path) ≡ in_field field (cleared_path path)
field-cleared field [] = refl
field-cleared field (node ∷ outer) = refl

outer-cleared : (path : List Around) →
    cleared_path (outer_path path) ≡ outer_path (cleared_path path)
outer-cleared [] = refl
outer-cleared (node ∷ outer) = refl

past-blank : (s : Spot) (x : Item) → past (cleared_spot s) (blank x) ≡ cleared_spot (past s x)
past-blank s (h.Open field head) =
    ap
    (λ path.
    record {
      place = s.place + 1;
      path = record { head = cleared_head head; begins = s.place; field = 0 } ∷ path;
    }) (sym (field-cleared field s.path))
past-blank s (h.Ident field x c r.Word) = refl
past-blank s (h.Ident field x c r.Binding) = refl
past-blank s (h.Ident field x c r.Reference) = refl
past-blank s (h.Hole field) = refl
past-blank s h.Close =
    ap (λ path. record { place = s.place + 1; path = path }) (sym (outer-cleared s.path))

fold-blank : (xs : List Item) (s : Spot) →
    fold past (cleared_spot s) (blanks xs) ≡ cleared_spot (fold past s xs)
fold-blank [] s = refl
fold-blank (x ∷ xs) s =
    ap (λ t. fold past t (blanks xs)) (past-blank s x) ∙ fold-blank xs (past s x)

-- the scopes around, and where they begin
scopes-blank : (xs : List Item) (s : Spot) (field : ℕ) →
    scopes_around Es (in_field field (fold past s xs).path) ≡ scopes_around Es
    (in_field field (fold past (cleared_spot s) (blanks xs)).path)
scopes-blank xs s field =
    sym (scopes_around-cleared Es (in_field field (fold past s xs).path))
    ∙ ap (scopes_around Es)
    (field-cleared field (fold past s xs).path
    ∙ ap (λ (t : Spot). in_field field t.path) (sym (fold-blank xs s)))

path-blank : (xs : List Item) (s : Spot) →
    scopes_around Es (fold past s xs).path ≡ scopes_around Es
    (fold past (cleared_spot s) (blanks xs)).path
path-blank xs s =
    sym (scopes_around-cleared Es (fold past s xs).path)
    ∙ ap (λ (t : Spot). scopes_around Es t.path) (sym (fold-blank xs s))

place-blank : (xs : List Item) (s : Spot) →
    (fold past s xs).place ≡ (fold past (cleared_spot s) (blanks xs)).place
place-blank xs s = ap (λ (t : Spot). t.place) (sym (fold-blank xs s))

spot-same : (s : Spot) (path : List Around) → s.path ≡ path → cleared_path path ≡ path →
    cleared_spot s ≡ record { place = s.place; path = path }
spot-same s path e clean =
    ap (λ p. record { place = s.place; path = p }) (ap cleared_path e ∙ clean)

-- the front without its names
abbrev pub skeleton : List Item
skeleton =
    blanks
    (load_function_front (record { injected = false; export_ctxt = None }) ([], 0) ([], 0) ([], 0)
    ([], 0))

abbrev at_module : ℕ → ℕ → Spot
at_module place field = record { place = place; path = in_field field module_path }

skeleton-scopes : (place field f : ℕ) →
    scopes_around Es (in_field f (fold past (at_module place field) skeleton).path) ≡ scopes_around
    Es (fold past (at_module place field) skeleton).path
skeleton-scopes place field f = refl

skeleton-size : (place other field its : ℕ) →
    length (scopes_around Es (fold past (at_module place field) skeleton).path) ≡ length
    (scopes_around Es (fold past (at_module other its) skeleton).path)
skeleton-size place other field its = refl

skeleton-below : (place field : ℕ) →
    AllOf (IsScopeBelow (fold past (at_module place field) skeleton).place)
    (scopes_around Es (fold past (at_module place field) skeleton).path)
skeleton-below place field = (omega arith, (omega arith, (omega arith, (tt, tt))))

-- fronts that are the same without names stand at spots that match
pub fronts-turned : (front renamed : List Item) → blanks front ≡ skeleton →
    blanks renamed ≡ skeleton → FrontTurned front renamed
fronts-turned front renamed one two = record {
  names = same-names front renamed (one ∙ sym two);
  spots = λ s t field its path_is its_is.
      let a : cleared_spot s ≡ at_module s.place field =
      spot-same s (in_field field module_path) path_is refl in
      let b : cleared_spot t ≡ at_module t.place its =
      spot-same t (in_field its module_path) its_is refl in
      let c : fold past (cleared_spot s) (blanks front) ≡ fold past (at_module s.place field)
      skeleton =
      ap₂ (λ (x : Spot) l. fold past x l) a one in
      let d : fold past (cleared_spot t) (blanks renamed) ≡ fold past (at_module t.place its)
      skeleton =
      ap₂ (λ (x : Spot) l. fold past x l) b two in
      record {
        same =
            λ f. scopes-blank front s f
            ∙ ap (λ (x : Spot). scopes_around Es (in_field f x.path)) c
            ∙ skeleton-scopes s.place field f
            ∙ ap (λ (x : Spot). scopes_around Es x.path) (sym c)
            ∙ sym (path-blank front s);
        its_same =
            λ f. scopes-blank renamed t f
            ∙ ap (λ (x : Spot). scopes_around Es (in_field f x.path)) d
            ∙ skeleton-scopes t.place its f
            ∙ ap (λ (x : Spot). scopes_around Es x.path) (sym d)
            ∙ sym (path-blank renamed t);
        size =
            ap length (path-blank front s)
            ∙ ap (λ (x : Spot). length (scopes_around Es x.path)) c
            ∙ skeleton-size s.place t.place field its
            ∙ ap (λ (x : Spot). length (scopes_around Es x.path)) (sym d)
            ∙ ap length (sym (path-blank renamed t));
        below =
            subst (λ n. AllOf (IsScopeBelow n) (scopes_around Es (fold past s front).path))
            (ap (λ (x : Spot). x.place) (sym c) ∙ sym (place-blank front s))
            (subst (AllOf (IsScopeBelow (fold past (at_module s.place field) skeleton).place))
            (ap (λ (x : Spot). scopes_around Es x.path) (sym c) ∙ sym (path-blank front s))
            (skeleton-below s.place field));
        its_below =
            subst (λ n. AllOf (IsScopeBelow n) (scopes_around Es (fold past t renamed).path))
            (ap (λ (x : Spot). x.place) (sym d) ∙ sym (place-blank renamed t))
            (subst (AllOf (IsScopeBelow (fold past (at_module t.place its) skeleton).place))
            (ap (λ (x : Spot). scopes_around Es x.path) (sym d)
            ∙ sym (path-blank renamed t)) (skeleton-below t.place its));
      };
}

-- the front that a linker writes
pub front-blank : (meta : ExportMetadata) (load helper own its : Ident) →
    blanks (load_function_front meta load helper own its) ≡ skeleton
front-blank meta load helper own its = refl

-- the function is its front, its body and its ends
pub function-parts : (meta : ExportMetadata) (load helper own its : Ident) (body : List Item) →
    load_function_items meta load helper own its body ≡ load_function_front meta load helper own its ++
    (body ++ function_ends)
function-parts meta load helper own its body =
    ap (λ l. load_function_front meta load helper own its ++ l) ends
  where
    one : (xs : List Item) → (body ++ xs) ++ h.Close ∷ [] ≡ body ++ (xs ++ h.Close ∷ [])
    one xs = append_assoc body xs (h.Close ∷ [])

    ends : ((((((body ++ h.Close ∷ []) ++ h.Close ∷ []) ++ h.Close ∷ []) ++ h.Close ∷ []) ++ h.Close
        ∷ []) ++ h.Close ∷ []) ++ h.Close ∷ [] ≡ body ++ function_ends
    ends =
        ap
        (λ l.
        (((((l ++ h.Close ∷ []) ++ h.Close ∷ []) ++ h.Close ∷ []) ++ h.Close ∷ []) ++
        h.Close ∷ [])) (one (h.Close ∷ []))
        ∙ ap (λ l. ((((l ++ h.Close ∷ []) ++ h.Close ∷ []) ++ h.Close ∷ []) ++ h.Close ∷ []))
        (one (h.Close ∷ h.Close ∷ []))
        ∙ ap (λ l. (((l ++ h.Close ∷ []) ++ h.Close ∷ []) ++ h.Close ∷ []))
        (one (h.Close ∷ h.Close ∷ h.Close ∷ []))
        ∙ ap (λ l. ((l ++ h.Close ∷ []) ++ h.Close ∷ []))
        (one (h.Close ∷ h.Close ∷ h.Close ∷ h.Close ∷ []))
        ∙ ap (λ l. (l ++ h.Close ∷ [])) (one (h.Close ∷ h.Close ∷ h.Close ∷ h.Close ∷ h.Close ∷ []))
        ∙ one (h.Close ∷ h.Close ∷ h.Close ∷ h.Close ∷ h.Close ∷ h.Close ∷ [])

-- ---- labels

-- identifiers that are the same
pub ident-same : (a b : Ident) → ident_eq a b ≡ true → a ≡ b
ident-same a b is =
    let both = and_parts (bytes_eq a.0 b.0) (a.1 == b.1) is in
    λ i. ((bytes_eq-Decides a.0 b.0).0 both.0 i, eqb-true a.1 b.1 both.1 i)

pub ident-self : (a : Ident) → ident_eq a a ≡ true
ident-self a =
    and_from (bytes_eq a.0 a.0) (a.1 == a.1) ((bytes_eq-Decides a.0 a.0).1 refl)
    (eq-eqb a.1 a.1 refl)

module _ (tree : List Item) (resolved : IsResolved Es tree) where
  abbrev os : List Occurrence
  os = occurrences tree

  there : (o : Occurrence) (at : IsIn os o) →
      denoted_at ByContext Es tree o.place ≡ Some (denoted_in_tree tree o)
  there o at = ap (option_map (denoted_in_tree tree)) (occurrences-at tree at.0 o at.1)

  -- one identifier denotes one thing, and the other way round
  pub same-denoted : (a b : Occurrence) → IsIn os a → IsIn os b → ident_of a ≡ ident_of b →
      denoted_in_tree tree a ≡ denoted_in_tree tree b
  same-denoted a b at its same =
      same_Some _ _
      (sym (there a at)
      ∙ (resolved.same a.place b.place a b (occurrences-at tree at.0 a at.1) (occurrences-at tree its.0 b its.1)).0
      (ap (λ (i : Ident). i.0) same, ap (λ (i : Ident). i.1) same)
      ∙ there b its)

  pub same-ident : (a b : Occurrence) → IsIn os a → IsIn os b →
      denoted_in_tree tree a ≡ denoted_in_tree tree b → ident_of a ≡ ident_of b
  same-ident a b at its same =
      let both =
      (resolved.same a.place b.place a b (occurrences-at tree at.0 a at.1) (occurrences-at tree its.0 b its.1)).1
      (there a at ∙ ap Some same ∙ sym (there b its)) in
      λ i. (both.0 i, both.1 i)

  -- what an identifier denotes
  ident-denotes : (o : Occurrence) → IsIn os o →
      denoted_ident tree (ident_of o) ≡ Some (denoted_in_tree tree o)
  ident-denotes o at =
      let found =
      find-some (λ a. ident_eq (ident_of a) (ident_of o)) os o at (ident-self (ident_of o)) in
      let its = find-in (λ a. ident_eq (ident_of a) (ident_of o)) os found.0 found.1 in
      let same =
      ident-same (ident_of found.0) (ident_of o)
      (find-passes (λ a. ident_eq (ident_of a) (ident_of o)) os found.0 found.1) in
      ap (option_map (denoted_in_tree tree)) found.1 ∙ ap Some (same-denoted found.0 o its at same)

  -- an occurrence of a labelled identifier
  pub label-there : (table : LabelTable) (o : Occurrence) → IsIn os o → (l : Label) →
      Contains table (ident_of o, l) → Contains (labels_in tree table) (denoted_in_tree tree o, l)
  label-there [] o at l c = absurd (Contains-none (ident_of o, l) c)
  label-there (entry ∷ rest) o at l c =
      by_first (denoted_ident tree entry.0) refl (λ later. label-there rest o at l later)
      ((Contains-cons entry rest (ident_of o, l)).0 c)
    where
      by_first : (first : Option Denoted) → denoted_ident tree entry.0 ≡ first →
          (Contains rest (ident_of o, l) → Contains (labels_in tree rest)
          (denoted_in_tree tree o, l)) →
          (entry ≡ (ident_of o, l)) ⊎ Contains rest (ident_of o, l) →
          Contains (cons_option (option_map (λ d. (d, entry.1)) first) (labels_in tree rest))
          (denoted_in_tree tree o, l)
      by_first first is ih (inl e) =
          let here : first ≡ Some (denoted_in_tree tree o) =
          sym is ∙ ap (λ (x : Ident × Label). denoted_ident tree x.0) e ∙ ident-denotes o at in
          let its : entry.1 ≡ l = ap (λ (x : Ident × Label). x.1) e in
          subst
          (λ f. Contains (cons_option (option_map (λ d. (d, entry.1)) f) (labels_in tree rest))
          (denoted_in_tree tree o, l)) (sym here)
          ((Contains-cons (denoted_in_tree tree o, entry.1) (labels_in tree rest) (denoted_in_tree tree o, l)).1
          (inl (λ i. (denoted_in_tree tree o, its i))))
      by_first None is ih (inr later) = ih later
      by_first (Some d) is ih (inr later) =
          (Contains-cons (d, entry.1) (labels_in tree rest) (denoted_in_tree tree o, l)).1
          (inr (ih later))

  -- what is labelled is what an occurrence of a labelled identifier denotes
  pub record IsFrom (table : LabelTable) (d : Denoted) (l : Label) : Type 0 where
    pub o : Occurrence
    pub at : IsIn os o
    pub its : Contains table (ident_of o, l)
    pub is : denoted_in_tree tree o ≡ d

  pub label-from : (table : LabelTable) (d : Denoted) (l : Label) →
      Contains (labels_in tree table) (d, l) → IsFrom table d l
  label-from [] d l c = absurd (Contains-none (d, l) c)
  label-from (entry ∷ rest) d l c =
      by_found (find (λ a. ident_eq (ident_of a) entry.0) os) refl (λ c. label-from rest d l c) c
    where
      later : IsFrom rest d l → IsFrom (entry ∷ rest) d l
      later from = record {
        o = from.o;
        at = from.at;
        its = (Contains-cons entry rest (ident_of from.o, l)).1 (inr from.its);
        is = from.is;
      }

      by_found : (found : Option Occurrence) →
          find (λ a. ident_eq (ident_of a) entry.0) os ≡ found →
          (Contains (labels_in tree rest) (d, l) → IsFrom rest d l) →
          Contains
          (cons_option
          (option_map (λ d. (d, entry.1)) (option_map (denoted_in_tree tree) found))
          (labels_in tree rest)) (d, l) → IsFrom (entry ∷ rest) d l
      by_found None is ih c = later (ih c)
      by_found (Some o) is ih c =
          by_case
          ((Contains-cons (denoted_in_tree tree o, entry.1) (labels_in tree rest) (d, l)).0 c)
        where
          by_case : (◌≡◌ {A = Denoted × Label} (denoted_in_tree tree o, entry.1) (d, l)) ⊎ Contains
              (labels_in tree rest) (d, l) → IsFrom (entry ∷ rest) d l
          by_case (inl e) = record {
            o = o;
            at = find-in (λ a. ident_eq (ident_of a) entry.0) os o is;
            its =
                (Contains-cons entry rest (ident_of o, l)).1
                (inl
                (λ i. (
                  sym
                      (ident-same (ident_of o) entry.0
                      (find-passes (λ a. ident_eq (ident_of a) entry.0) os o
                      is)) i,
                  ap (λ (x : Denoted × Label). x.1) e i,
                )));
            is = ap (λ (x : Denoted × Label). x.0) e;
          }
          by_case (inr more) = later (ih more)

  -- no binding has two labels, and no label two bindings
  pub labels-one : (table : LabelTable) → IsLabelTable table → IsOneToOne (labels_in tree table)
  labels-one table one = record {
    one_label = λ d l other a b.
        let x = label-from table d l a in
        let y = label-from table d other b in
        one.one_label (ident_of x.o) l other x.its
        (subst (λ i. Contains table (i, other)) (same-ident y.o x.o y.at x.at (y.is ∙ sym x.is))
        y.its);
    one_binding = λ d other l a b.
        let x = label-from table d l a in
        let y = label-from table other l b in
        sym x.is
        ∙ same-denoted x.o y.o x.at y.at
        (one.one_ident (ident_of x.o) (ident_of y.o) l x.its y.its)
        ∙ y.is;
  }

-- ---- plain

-- no node of a path is an object literal or a shorthand property
abbrev pub IsPlainPath : List Around → Type 0
IsPlainPath [] = ⊤
IsPlainPath (node ∷ outer) =
    (is_shorthand_in_pattern node.head ≡ false) × (is_object node.head ≡ false) × IsPlainPath outer

pub plain_field : (field : ℕ) (path : List Around) → IsPlainPath path →
    IsPlainPath (in_field field path)
plain_field field [] plain = tt
plain_field field (node ∷ outer) plain = plain

pub plain_outer : (path : List Around) → IsPlainPath path → IsPlainPath (outer_path path)
plain_outer [] plain = tt
plain_outer (node ∷ outer) plain = plain.2

not_moved : (path : List Around) → IsPlainPath path → is_moved path ≡ false
not_moved [] plain = refl
not_moved (node ∷ outer) plain = ap (λ b. b && (node.field == 0)) plain.0

end_plain_path : (tree : List Item) (path : List Around) → IsPlainPath path →
    end_marks {N = Meant} tree path ≡ k.Ends ∷ []
end_plain_path tree [] plain = refl
end_plain_path tree (node ∷ outer) plain =
    ap (λ b. if b && has_default tree node.begins then k.Ends ∷ k.Ends ∷ [] else k.Ends ∷ [])
    plain.0

name_plain_path : (field : ℕ) (path : List Around) (x : Text) (meant : Meant) → IsPlainPath path →
    name_marks field path x meant ≡ k.Name field meant ∷ []
name_plain_path field [] x meant plain = refl
name_plain_path field (node ∷ outer) x meant plain =
    ap
    (λ b. if b then k.Begins field h.KeyValueProp ∷
    (object_key x ++ k.Name 1 meant ∷ k.Ends ∷ []) else k.Name field meant ∷ []) plain.1

module _ (b : Labelled) where
  abbrev sense : Sense
  sense = sense_of b

  bound_means : (d : Denoted) (l : Label) → StandsForLabel b.labels d l →
      NameMeans sense [] d (Known l)
  bound_means d l its =
      subst (λ e. NameMeans sense [] e (Known l)) (sym its.is) (outside refl its.labelled)

  -- an occurrence that stands for a label
  occurs : (s : Spot) (field : ℕ) (x : Text) (ctxt : ℕ) (role : Role) (more : List Item)
      (o : Occurrence) → occurrence_of s (h.Ident field x ctxt role) ≡ Some o →
      IsSpotAt b.tree s (h.Ident field x ctxt role ∷ more) → IsPlainPath s.path → (l : Label) →
      StandsForLabel b.labels (denoted_here sense.view o) l →
      (rest : List Element) (marks : List Mark) → Means sense [] rest marks →
      Means sense [] (taken s.place (h.Ident field x ctxt role) ∷ rest)
      (k.Name field (Known l) ∷ marks)
  occurs s field x ctxt role more o is at plain l its rest marks later =
      means_as sense [] refl
      (ap (λ list. list ++ marks)
      (ap (λ path. name_marks field path x (Known l)) (at-path at)
      ∙ name_plain_path field (in_field field s.path) x (Known l)
      (plain_field field s.path plain)))
      (named (denoted_here sense.view o) (Known l)
      (ap (option_map (denoted_here sense.view)) (occurrence_there at ∙ is))
      (bound_means (denoted_here sense.view o) l its) later)

  pub plain_means : (s : Spot) (xs tail : List Item) → IsSpotAt b.tree s (xs ++ tail) →
      IsPlainPath s.path → are_plain xs ≡ true → (names : List Label) →
      AllZip (StandsForLabel b.labels) (denoted_from sense.view s xs) names →
      Means sense [] (taken_from s.place xs) (plain_marks xs names)
  plain_means s [] tail at plain all names agree = finished
  plain_means s (h.Open field head ∷ xs) tail at plain all names agree =
      let one =
      and_parts (not (is_shorthand_in_pattern head)) (not (is_object head) && are_plain xs)
      all in
      let two = and_parts (not (is_object head)) (are_plain xs) one.1 in
      let short : is_shorthand_in_pattern head ≡ false =
      not_is (is_shorthand_in_pattern head) one.0 in
      let object : is_object head ≡ false = not_is (is_object head) two.0 in
      let path = plain_field field s.path plain in
      let rest =
      plain_means (past s (h.Open field head)) xs tail
      (at-past (h.Open field head) (xs ++ tail) at) (short, object, path) two.1 names
      agree in
      means_as sense [] refl
      (ap (λ list. list ++ plain_marks xs names)
      (ap (λ path. begin_marks b.tree s.place field path head) (at-path at)
      ∙ begin_plain b.tree s.place field (in_field field s.path) head short
      (not_moved (in_field field s.path) path)))
      (begun (λ by none. none)
      (subst (λ n. Means sense [] (taken_from n xs) (plain_marks xs names)) (add-one s.place)
      rest))
  plain_means s (h.Ident field x ctxt r.Word ∷ xs) tail at plain all names agree =
      word
      (subst (λ n. Means sense [] (taken_from n xs) (plain_marks xs names)) (add-one s.place)
      (plain_means (past s (h.Ident field x ctxt r.Word)) xs tail
      (at-past (h.Ident field x ctxt r.Word) (xs ++ tail) at) plain all names agree))
  plain_means s (h.Ident field x ctxt r.Binding ∷ xs) tail at plain all [] agree = absurd agree
  plain_means s (h.Ident field x ctxt r.Binding ∷ xs) tail at plain all (l ∷ names) agree =
      occurs s field x ctxt r.Binding (xs ++ tail) _ refl at plain l agree.0
      (taken_from (suc s.place) xs) (plain_marks xs names)
      (subst (λ n. Means sense [] (taken_from n xs) (plain_marks xs names)) (add-one s.place)
      (plain_means (past s (h.Ident field x ctxt r.Binding)) xs tail
      (at-past (h.Ident field x ctxt r.Binding) (xs ++ tail) at) plain all names agree.1))
  plain_means s (h.Ident field x ctxt r.Reference ∷ xs) tail at plain all [] agree = absurd agree
  plain_means s (h.Ident field x ctxt r.Reference ∷ xs) tail at plain all (l ∷ names) agree =
      occurs s field x ctxt r.Reference (xs ++ tail) _ refl at plain l agree.0
      (taken_from (suc s.place) xs) (plain_marks xs names)
      (subst (λ n. Means sense [] (taken_from n xs) (plain_marks xs names)) (add-one s.place)
      (plain_means (past s (h.Ident field x ctxt r.Reference)) xs tail
      (at-past (h.Ident field x ctxt r.Reference) (xs ++ tail) at) plain all names
      agree.1))
  plain_means s (h.Hole field ∷ xs) tail at plain all names agree =
      empty
      (subst (λ n. Means sense [] (taken_from n xs) (plain_marks xs names)) (add-one s.place)
      (plain_means (past s (h.Hole field)) xs tail (at-past (h.Hole field) (xs ++ tail) at)
      plain all names agree))
  plain_means s (h.Close ∷ xs) tail at plain all names agree =
      means_as sense [] refl
      (ap (λ list. list ++ plain_marks xs names)
      (ap (end_marks b.tree) (at-path at) ∙ end_plain_path b.tree s.path plain))
      (ended
      (subst (λ n. Means sense [] (taken_from n xs) (plain_marks xs names)) (add-one s.place)
      (plain_means (past s h.Close) xs tail (at-past h.Close (xs ++ tail) at)
      (plain_outer s.path plain) all names agree)))
