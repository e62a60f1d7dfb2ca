-- The list of exports.
-- The helper of load functions: where its names stand, and what they denote.
use Rattle.std.proofs.Common.{◌≡◌, ℕ, Bool, true, false, List, [], ◌∷◌, ◌++◌, Option, map, append_assoc, append-nil, refl, sym, ◌∙◌, subst, ◌&&◌, ◌||◌, ◌==◌, not, Some, filter, codes, bytes_eq, ap, eq-eqb}
use Rattle.std.specs.Prelude.{flat_map, if◌then◌else◌, position}
use Rattle.std.specs.List.{AllZip, list_any}
use Rattle.std.proofs.lemmas.Bool.{false≢true, and_parts}
use Rattle.bundle_syntax.specs.Item as h
use Rattle.bundle_syntax.specs.Item.{Item}
use Rattle.bundle_syntax.specs.declared.operator.AssignOp.TheVariants.{Assign}
use Rattle.bundle_syntax.specs.declared.operator.UnaryOp.TheVariants.{Bang}
use Rattle.bundle_syntax.specs.declared.piece.Role.TheVariants as r
use Rattle.bundle_rules.specs.Places.{occurrences_from, Occurrence}
use Rattle.bundle_rules.specs.Nodes.{Text}
use Rattle.bundle_rules.specs.Idents.{Ident, ident_of}
use Rattle.bundle_rules.specs.Rebuilds.{Listed}
use Rattle.bundle_rules.specs.Statements.{no_notes}
use Rattle.bundle_rules.specs.Injected as i
use Rattle.bundle_rules.specs.Injected.{is_ascii_identifier, NamedTarget}
use Rattle.bundle_rules.specs.Program.{Program}
use Rattle.bundle_rules.specs.Linking.{Target, Linked}
use Rattle.bundle_rules.specs.Meaning.{Label, Of, IsMeant, by_export, is_inside}
use Rattle.bundle_rules.specs.Bundle.{Exports, Hooks, AreLinked}
use Rattle.bundle_rules.specs.Scopes.{Top, Inner, Parameters, FunctionBody}
use Rattle.bundle_rules.specs.Declarations.{ByContext, name_of, is_nameless_default}
use Rattle.bundle_rules.specs.Denotes.{Denoted, Bound, is_written_in}
use Rattle.bundle_rules.specs.Mentions.{same_denoted, each_denoted_once}
use Rattle.bundle_tree_places.specs.Edits as e
use Rattle.bundle_merge_injected.specs.Listed as l
use Rattle.bundle_scope_names.specs.fit.Sorts.{AnItem, AnExport, ASource, Optional, Many, NodeSlot, slot, AnExpr, AMemberKey, AStmt, One}
use Rattle.bundle_scope_names.specs.fit.Fits.{AreFit, no_more, over, a_name, a_node, IsFit, node}
use Rattle.bundle_merge_theory.proofs.joined.Declarations.{AreNamed, IsNamed as HasNames}
use Rattle.bundle_merge_theory.specs.walked.Renaming.{HasMarks}
use Rattle.bundle_merge_theory.proofs.walked.Loading.{means_of, written_of, export_list_marked, Import as Pair, export_list_lone}
use Rattle.bundle_merge_theory.specs.joined.Joined.{own_declared}
use Rattle.bundle_merge_theory.specs.joined.Notes.{own_denoted, is_inner_name}
use Rattle.bundle_merge_theory.specs.composed.Noted.{exports, first_spot}
use Rattle.bundle_merge_theory.specs.made.Given.{HookAnswer, BundleContexts, ident_of_label}
use Rattle.bundle_merge_theory.specs.made.Made.{linked_idents}
use Rattle.bundle_merge_theory.specs.made.Alone.{IsTopLabel, DeclaresLabel, adds, IsItemAlone}
use Rattle.bundle_merge_theory.proofs.added.Rows.{IsTopped, binds_it, topped-alone, read_name, none-read, rows_of, written-rows, target-rows, rows-tell}
use Rattle.bundle_merge_theory.proofs.added.Imports.{at_top, outer-fits}
use Rattle.bundle_merge_theory.specs.composed.Names.{own_from}

-- ---- exports
abbrev one_export : Ident → Text → Bool → List Item
one_export id x b =
    e.node 0 h.ExportNamedSpecifier
    (h.Ident 0 id.0 id.1 r.Reference ∷ (if b then h.Ident 1 x 0 r.Word ∷ [] else l.string_in 1 x))

one-topped : (begins place field : ℕ) (id : Ident) (x : Text) (b : Bool) (rest : List Item)
    (names : List Listed) →
    ((place field : ℕ) → AllZip IsTopped
    (occurrences_from (at_top (h.NamedExport no_notes) begins place field) rest) names) →
    AllZip IsTopped
    (occurrences_from (at_top (h.NamedExport no_notes) begins place field) (one_export id x b
    ++ rest))
    ((id, false) ∷ names)
one-topped begins place field id x true rest names more = (
  record {
    ident = refl;
    binds = refl;
    home = λ is. absurd (false≢true is);
  },
  more _ _,
)
one-topped begins place field id x false rest names more = (
  record {
    ident = refl;
    binds = refl;
    home = λ is. absurd (false≢true is);
  },
  more _ _,
)

all-topped : (begins place field : ℕ) (pairs : List Pair) (rest : List Item)
    (names : List Listed) →
    ((place field : ℕ) → AllZip IsTopped
    (occurrences_from (at_top (h.NamedExport no_notes) begins place field) rest) names) →
    AllZip IsTopped
    (occurrences_from (at_top (h.NamedExport no_notes) begins place field)
    (flat_map l.export_specifier pairs ++ rest))
    (map read_name pairs ++ names)
all-topped begins place field [] rest names more = more place field
all-topped begins place field (pair ∷ pairs) rest names more =
    subst
    (λ items. AllZip IsTopped
    (occurrences_from (at_top (h.NamedExport no_notes) begins place field) items)
    (read_name pair ∷ (map read_name pairs ++ names)))
    (sym (append_assoc (l.export_specifier pair) (flat_map l.export_specifier pairs) rest))
    (one-topped begins place field pair.1 pair.0 (is_ascii_identifier pair.0)
    (flat_map l.export_specifier pairs ++ rest) (map read_name pairs ++ names)
    (λ its_place its_field. all-topped begins its_place its_field pairs rest names more))

one-named : (id : Ident) (x : Text) (b : Bool) (rest : List Item) → AreNamed rest →
    AreNamed (one_export id x b ++ rest)
one-named id x true rest named = (refl, (refl, (refl, (refl, named))))
one-named id x false rest named = (refl, (refl, (refl, (refl, (refl, named)))))

all-named : (pairs : List Pair) (rest : List Item) → AreNamed rest →
    AreNamed (flat_map l.export_specifier pairs ++ rest)
all-named [] rest named = named
all-named (pair ∷ pairs) rest named =
    subst AreNamed
    (sym (append_assoc (l.export_specifier pair) (flat_map l.export_specifier pairs) rest))
    (one-named pair.1 pair.0 (is_ascii_identifier pair.0) (flat_map l.export_specifier pairs
    ++ rest)
    (all-named pairs rest named))

one-fits : (more : List NodeSlot) (id : Ident) (x : Text) (b : Bool) (rest : List Item) →
    AreFit (slot 0 Many AnExport ∷ more) rest →
    AreFit (slot 0 Many AnExport ∷ more) (one_export id x b ++ rest)
one-fits more id x true rest fits =
    a_node {inside = h.Ident 0 id.0 id.1 r.Reference ∷ h.Ident 1 x 0 r.Word ∷ []} refl
    (a_name refl (outer-fits x true)) fits
one-fits more id x false rest fits =
    a_node {inside = h.Ident 0 id.0 id.1 r.Reference ∷ l.string_in 1 x} refl
    (a_name refl (outer-fits x false)) fits

all-fits : (more : List NodeSlot) (pairs : List Pair) (rest : List Item) →
    AreFit (slot 0 Many AnExport ∷ more) rest →
    AreFit (slot 0 Many AnExport ∷ more) (flat_map l.export_specifier pairs ++ rest)
all-fits more [] rest fits = fits
all-fits more (pair ∷ pairs) rest fits =
    subst (AreFit (slot 0 Many AnExport ∷ more))
    (sym (append_assoc (l.export_specifier pair) (flat_map l.export_specifier pairs) rest))
    (one-fits more pair.1 pair.0 (is_ascii_identifier pair.0)
    (flat_map l.export_specifier pairs ++ rest) (all-fits more pairs rest fits))

-- The item.
module _ (p : Program) (hooks : Hooks) (list : List ℕ) (context : BundleContexts)
    (answers : ℕ → Option HookAnswer) (pairs : List NamedTarget)
    (labels : (x : Text) (t : Target) → Linked p p.entry x t → IsMeant p (Of t) →
    IsTopLabel p (Of t))
    (are : AreLinked p p.entry pairs) where
  abbrev named_pairs : List Pair
  named_pairs = linked_idents p list context pairs

  topped : AllZip IsTopped (occurrences_from first_spot (l.export_list named_pairs))
      (map read_name named_pairs)
  topped =
      subst
      (λ its. AllZip IsTopped
      (occurrences_from (at_top (h.NamedExport no_notes) 1 2 0)
      (flat_map l.export_specifier named_pairs ++ h.Close ∷ []))
      its)
      (append-nil (map read_name named_pairs))
      (all-topped 1 2 0 named_pairs (h.Close ∷ []) [] (λ place field. tt))

  named : AreNamed (l.export_list named_pairs ++ h.Close ∷ [])
  named = (
    refl,
    subst AreNamed
        (sym (append_assoc (flat_map l.export_specifier named_pairs) (h.Close ∷ []) (h.Close ∷ [])))
        (all-named named_pairs (h.Close ∷ h.Close ∷ []) (refl, (refl, tt))),
  )

  fits : IsFit AnItem 0 (l.export_list named_pairs)
  fits =
      node {inside = flat_map l.export_specifier named_pairs} refl
      (subst (AreFit (slot 0 Many AnExport ∷ slot 1 Optional ASource ∷ []))
      (append-nil (flat_map l.export_specifier named_pairs))
      (all-fits (slot 1 Optional ASource ∷ []) named_pairs [] (over refl (over refl no_more))))

  marked : HasMarks (l.export_list named_pairs)
      (map means_of (rows_of p list context pairs), i.export_list pairs)
  marked =
      subst
      (λ its. HasMarks (l.export_list its)
      (map means_of (rows_of p list context pairs), i.export_list pairs))
      (written-rows p list context pairs)
      (subst
      (λ its. HasMarks (l.export_list (map written_of (rows_of p list context pairs)))
      (map means_of (rows_of p list context pairs), i.export_list its))
      (target-rows p list context pairs)
      (export_list_marked (rows_of p list context pairs)))

  declares : (label : Label) → DeclaresLabel p Exports label →
      list_any
      (binds_it (ident_of_label p list context label).0 (ident_of_label p list context label).1)
      (map read_name named_pairs)
      ≡ true
  declares label (adds it) = elim it [ ]

  pub exports-alone : IsItemAlone p hooks list context answers Exports (l.export_list named_pairs)
  exports-alone =
      topped-alone p hooks list context answers Exports
      (λ c e. absurd cc) (l.export_list named_pairs)
      (map means_of (rows_of p list context pairs), i.export_list pairs) (map read_name named_pairs)
      fits marked (exports pairs refl are) (export_list_lone named_pairs) named topped
      (rows-tell p list context pairs
      (λ x t has. let linked : Linked p p.entry x t = ((are.all x t).0 has) in labels x t linked
      (by_export linked)))
      tt declares (λ x c is. absurd (false≢true (sym (none-read x c named_pairs) ∙ is)))

-- ---- helper

-- no default export is without a name
abbrev are_named : List Item → Bool
are_named [] = true
are_named (x ∷ xs) = not (is_nameless_default x xs) && are_named xs

named-so : (xs : List Item) → are_named xs ≡ true → AreNamed xs
named-so [] is = tt
named-so (x ∷ xs) is =
    let both = and_parts (not (is_nameless_default x xs)) (are_named xs) is in
    (by (is_nameless_default x xs) both.0, named-so xs both.1)
  where
    by : (b : Bool) → not b ≡ true → b ≡ false
    by true e = absurd (false≢true e)
    by false e = refl

-- its own name, its parameter, and its variable
pub data Part : Type 0 where
  ItsName : Part
  ItsParameter : Part
  ItsVariable : Part

-- the parts of its names in turn
abbrev pub its_parts : List Part
its_parts =
    ItsName ∷ ItsParameter ∷ ItsVariable ∷ ItsVariable ∷ ItsVariable ∷ ItsParameter ∷ ItsVariable
    ∷ ItsVariable ∷ ItsVariable ∷ ItsVariable ∷ []

-- It is fit.

member-fits : (id : Ident) (x : Text) →
    AreFit (slot 0 One AnExpr ∷ slot 1 One AMemberKey ∷ [])
    (l.named 0 r.Reference id ++ l.word_in 1 x)
member-fits id x = a_name refl (a_node {inside = []} refl no_more no_more)

makes-fit : (m : Ident) (rest : List Item) → AreFit (slot 0 Many AStmt ∷ []) rest →
    AreFit (slot 0 Many AStmt ∷ []) (l.makes_module m ++ rest)
makes-fit m rest fits =
    a_node
    {inside = e.node 0 (h.AssignExpr Assign) (l.pattern_of 1 r.Reference m
    ++ e.node 2 h.ObjectLit l.exported)}
    refl
    (a_node {inside = l.pattern_of 1 r.Reference m ++ e.node 2 h.ObjectLit l.exported} refl
    (a_node {inside = l.named 0 r.Reference m} refl (a_name refl no_more)
    (a_node {inside = l.exported} refl
    (a_node {inside = l.word_in 0 (codes "exports") ++ e.node 1 h.ObjectLit []} refl
    (a_node {inside = []} refl no_more (a_node {inside = []} refl (over refl no_more) no_more))
    (over refl no_more))
    no_more))
    no_more)
    fits

runs-fit : (f m : Ident) → AreFit (slot 0 Many AStmt ∷ []) (l.runs_module f m)
runs-fit f m =
    a_node {inside = l.call_in 0 (l.member 0 f (codes "call")) (l.run_arguments m)} refl
    (a_node {inside = l.member 0 f (codes "call") ++ l.run_arguments m} refl
    (a_node {inside = l.named 0 r.Reference f ++ l.word_in 1 (codes "call")} refl
    (member-fits f (codes "call"))
    (a_node {inside = l.member 1 m (codes "exports")} refl
    (a_node {inside = l.named 0 r.Reference m ++ l.word_in 1 (codes "exports")} refl
    (member-fits m (codes "exports")) no_more)
    (a_node {inside = l.named 1 r.Reference m} refl (a_name refl no_more)
    (a_node {inside = l.member 1 m (codes "exports")} refl
    (a_node {inside = l.named 0 r.Reference m ++ l.word_in 1 (codes "exports")} refl
    (member-fits m (codes "exports")) no_more)
    (over refl no_more)))))
    no_more)
    (over refl no_more)

once-fits : (f m : Ident) (rest : List Item) → AreFit (slot 0 Many AStmt ∷ []) rest →
    AreFit (slot 0 Many AStmt ∷ []) (l.loads_once f m ++ rest)
once-fits f m rest fits =
    a_node
    {inside = e.node 0 (h.UnaryExpr Bang) (l.named 1 r.Reference m)
    ++ e.node 1 h.BlockStmt (l.makes_module m ++ l.runs_module f m)}
    refl
    (a_node {inside = l.named 1 r.Reference m} refl (a_name refl no_more)
    (a_node {inside = l.makes_module m ++ l.runs_module f m} refl
    (makes-fit m (l.runs_module f m) (runs-fit f m)) (over refl no_more)))
    fits

body-fits : (f m : Ident) → AreFit (slot 0 Many AStmt ∷ []) (l.helper_body f m)
body-fits f m =
    a_node {inside = e.node 1 h.VarDeclarator (l.pattern_of 0 r.Binding m)} refl
    (a_node {inside = l.pattern_of 0 r.Binding m} refl
    (a_node {inside = l.named 0 r.Binding m} refl (a_name refl no_more) (over refl no_more))
    (over refl no_more))
    (a_node
    {inside = e.node 0 h.FnExpr (l.function_in 1 [] (l.loads_once f m ++ l.returns_exports m))}
    refl
    (a_node {inside = l.function_in 1 [] (l.loads_once f m ++ l.returns_exports m)} refl
    (over refl
    (a_node {inside = e.node 1 h.BlockStmt (l.loads_once f m ++ l.returns_exports m)} refl
    (over refl
    (a_node {inside = l.loads_once f m ++ l.returns_exports m} refl
    (once-fits f m (l.returns_exports m)
    (a_node {inside = l.member 0 m (codes "exports")} refl
    (a_node {inside = l.named 0 r.Reference m ++ l.word_in 1 (codes "exports")} refl
    (member-fits m (codes "exports")) no_more)
    (over refl no_more)))
    no_more))
    no_more))
    no_more)
    (over refl no_more))

module _ (a b c : ℕ) where
  abbrev pub helper_item : List Item
  helper_item =
      l.helper_function (codes "__swcpack_require__", a) (codes "fn", b) (codes "module", c)

  abbrev pub part_ident : Part → Ident
  part_ident ItsName = (codes "__swcpack_require__", a)
  part_ident ItsParameter = (codes "fn", b)
  part_ident ItsVariable = (codes "module", c)

  abbrev pub part_denotes : Part → Denoted
  part_denotes ItsName = Bound Top (name_of ByContext (codes "__swcpack_require__") a)
  part_denotes ItsParameter = Bound (Inner Parameters 3) (name_of ByContext (codes "fn") b)
  part_denotes ItsVariable = Bound (Inner FunctionBody 9) (name_of ByContext (codes "module") c)

  -- an occurrence of a part
  pub record IsOf (o : Occurrence) (part : Part) : Type 0 where
    pub ident : ident_of o ≡ part_ident part
    pub denotes : own_denoted helper_item o ≡ part_denotes part

  pub helper-named : HasNames helper_item
  helper-named = named-so (helper_item ++ h.Close ∷ []) refl

  same-b : (b == b) ≡ true
  same-b = eq-eqb b b refl

  same-c : (c == c) ≡ true
  same-c = eq-eqb c c refl

  pub helper-parts : AllZip IsOf (occurrences_from first_spot helper_item) its_parts
  helper-parts = (
    record { ident = refl; denotes = refl },
    (
      record { ident = refl; denotes = refl },
      (
        record { ident = refl; denotes = refl },
        (
          record { ident = refl; denotes = rw same-c refl },
          (
            record { ident = refl; denotes = rw same-c refl },
            (
              record { ident = refl; denotes = rw same-b refl },
              (
                record { ident = refl; denotes = rw same-c refl },
                (
                  record { ident = refl; denotes = rw same-c refl },
                  (
                    record { ident = refl; denotes = rw same-c refl },
                    (
                      record { ident = refl; denotes = rw same-c refl },
                      tt,
                    ),
                  ),
                ),
              ),
            ),
          ),
        ),
      ),
    ),
  )

  -- what its names denote in turn
  parts-denote : (os : List Occurrence) (parts : List Part) → AllZip IsOf os parts →
      map (own_denoted helper_item) os ≡ map part_denotes parts
  parts-denote [] [] all = refl
  parts-denote [] (part ∷ parts) all = absurd all
  parts-denote (o ∷ os) [] all = absurd all
  parts-denote (o ∷ os) (part ∷ parts) all =
      ap (λ d. d ∷ map (own_denoted helper_item) os) (all.0).denotes
      ∙ ap (λ ds. part_denotes part ∷ ds) (parts-denote os parts all.1)

  -- its bindings inside
  abbrev pub inside_it : List Denoted
  inside_it = part_denotes ItsParameter ∷ part_denotes ItsVariable ∷ []

  once : each_denoted_once (filter (is_inside 1) (map part_denotes its_parts)) ≡ inside_it
  once = simp (same-b, same-c)

  pub helper-inside : each_denoted_once (filter (is_inside 1)
      (own_from helper_item first_spot helper_item))
      ≡ inside_it
  helper-inside =
      ap (λ ds. each_denoted_once (filter (is_inside 1) ds))
      (parts-denote (occurrences_from first_spot helper_item) its_parts helper-parts)
      ∙ once

  pub parameter-at : position (same_denoted (part_denotes ItsParameter)) inside_it ≡ Some 0
  parameter-at = rw same-b refl

  pub variable-at : position (same_denoted (part_denotes ItsVariable)) inside_it ≡ Some 1
  variable-at = rw same-c refl

  -- its own name is no inner one
  pub name-outside : is_inner_name (own_declared helper_item)
      (name_of ByContext (codes "__swcpack_require__") a) ≡ false
  name-outside = refl

  -- what its top declares
  pub top-is : (x : List ℕ) (k : ℕ) →
      is_written_in (own_declared helper_item) Top (name_of ByContext x k)
      ≡ (bytes_eq (codes "__swcpack_require__") x && (a == k))
  top-is x k = first-alone (bytes_eq (codes "__swcpack_require__") x && (a == k))
    where
      first-alone : (t : Bool) → (t || false) ≡ t
      first-alone true = refl
      first-alone false = refl

  pub helper-fits : IsFit AnItem 0 helper_item
  helper-fits =
      node {inside = h.Ident 0 (codes "__swcpack_require__") a r.Binding ∷ l.function_in 1
      (l.parameter (codes "fn", b)) (l.helper_body (codes "fn", b) (codes "module", c))} refl
      (a_name refl
      (a_node {inside = l.parameter (codes "fn", b) ++ e.node 1 h.BlockStmt (l.helper_body
      (codes "fn", b) (codes "module", c))} refl
      (a_node {inside = l.pattern_of 0 r.Binding (codes "fn", b)} refl
      (a_node {inside = h.Ident 0 (codes "fn") b r.Binding ∷ []} refl (a_name refl no_more) no_more)
      (over refl
      (a_node {inside = l.helper_body (codes "fn", b) (codes "module", c)} refl
      (body-fits (codes "fn", b) (codes "module", c))
      no_more)))
      no_more))
