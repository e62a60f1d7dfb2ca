-- Theorem of this folder (`told`): what is told of a statement of a module is so, all of it. What
-- is made of the statement has its marks, and they are what the statement means.
-- Used by folders `together`, `undoubled`.
use Rattle.std.proofs.Common.{◌≡◌, ℕ, zero, suc, Bool, true, false, not, ◌&&◌, List, [], ◌∷◌, length, Some, None, map, filter, refl, sym, ap, ap₂, ◌∙◌, subst, if◌then◌else◌, arith}
use Rattle.std.specs.Prelude.{Contains, bytes_eq, slice_get}
use Rattle.std.specs.List.{AllZip, list_all}
use Rattle.std.proofs.lemmas.Bool.{false≢true}
use Rattle.std.proofs.lemmas.Option.{none-some, same_Some}
use Rattle.std.proofs.lemmas.Slice.Eq.{bytes_eq-Decides}
use Rattle.bundle_syntax.specs.declared.kind.MetaPropKind.TheVariants as k
use Rattle.bundle_syntax.specs.declared.piece.Role.TheVariants as r
use Rattle.bundle_syntax.specs.Item as h
use Rattle.bundle_syntax.specs.Item.{Item, Head}
use Rattle.bundle_tree_rebuild.specs.declared.rewrite.Whole.{Whole}
use Rattle.bundle_tree_rebuild.specs.Work.{Step}
use Rattle.bundle_rules.specs.Places.{Spot, Occurrence, past, spot_before, occurrences_from}
use Rattle.bundle_rules.specs.Scopes.{ModuleKind}
use Rattle.bundle_rules.specs.Denotes.{Denoted}
use Rattle.bundle_rules.specs.Mentions.{each_denoted_once}
use Rattle.bundle_rules.specs.Idents.{Ident}
use Rattle.bundle_rules.specs.Nodes.{has_head}
use Rattle.bundle_rules.specs.Shape.{is_specifier}
use Rattle.bundle_rules.specs.Cleared.{cleared, cleared_head}
use Rattle.bundle_rules.specs.Statements.{TopItem, Element, stated, own_statements}
use Rattle.bundle_rules.specs.Entries.{has_import_meta, is_import_meta}
use Rattle.bundle_rules.specs.Program.{Program, tree_of, IsReached}
use Rattle.bundle_rules.specs.Meaning.{Meta, Meant, Known, HasKind, is_inside, inner_bindings, own_view, own_sense}
use Rattle.bundle_merge_theory.specs.noted.Marked.{Note}
use Rattle.bundle_merge_theory.specs.noted.Agrees.{AgreeInTurn, ReplacesNotable}
use Rattle.bundle_merge_theory.specs.noted.Stated.{MarkedStated, declares_default}
use Rattle.bundle_merge_theory.specs.walked.Keeps.{Agree, AgreeOnMeta}
use Rattle.bundle_merge_theory.specs.walked.Names.{idents_among}
use Rattle.bundle_merge_theory.specs.walked.Rewrites.{is_own_item, AreOwn, KeepsSymbol, Cover}
use Rattle.bundle_merge_theory.specs.walked.Stated.{StatesList, SameStated}
use Rattle.bundle_merge_theory.proofs.noted.Statements.{stated_denotes}
use Rattle.bundle_merge_theory.proofs.noted.UsesAgree.{top_means}
use Rattle.bundle_merge_theory.proofs.form.Bared.{Spells, AllSpell}
use Rattle.bundle_merge_theory.proofs.form.Keeps.{keeps-form}
use Rattle.bundle_merge_theory.proofs.noted.Replaces.{MetaIs, replaces_notable}
use Rattle.bundle_merge_theory.proofs.noted.Spots.{at-spot, around_spot}
use Rattle.bundle_merge_theory.proofs.noted.StaticReads.{plain_nodes}
use Rattle.bundle_merge_theory.proofs.noted.Names.{StandsThere}
use Rattle.bundle_merge_theory.proofs.walked.Rewriting.{states_same}
use Rattle.bundle_merge_theory.specs.made.Alone.{AreTreesSound}
use Rattle.bundle_merge_theory.specs.made.Given.{BundleContexts, default_ident, ident_of_label}
use Rattle.bundle_merge_theory.specs.made.Made.{IsStatedAs}
use Rattle.bundle_merge_theory.specs.made.Steps.{IsStepTo, IsStep, keeps, uses, calls, meta_ident, occurrences_in}
use Rattle.bundle_merge_theory.specs.made.Told.{denoted_in_module, AllNoted, meta_meant, default_meant, IsStatementTold}
use Rattle.bundle_merge_theory.proofs.told.Cleared.{stated_cleared, states_alone}
use Rattle.bundle_merge_theory.proofs.told.Defaults.{declares_cleared, default_means, default_meant as default_is_meant, IsSet, form, here, listing, all_nodes, item_fit, of_top}
use Rattle.bundle_merge_theory.proofs.told.Meant.{inner_here}
use Rattle.bundle_merge_theory.proofs.told.Notes.{HasNote, kept, used, called}
use Rattle.bundle_merge_theory.proofs.told.Tops.{occurrences_there, HasForm, stated_fit-own}

-- ---- what is own stays so with contexts and notes
specifier_cleared : (head : Head) → is_specifier (cleared_head head) ≡ is_specifier head
specifier_cleared (h.ImportDecl meta) = refl
specifier_cleared (h.NamedExport meta) = refl
specifier_cleared (h.ExportAll meta) = refl
specifier_cleared (h.VarDecl kind meta) = refl
specifier_cleared _ = refl

own_cleared : (items : List Item) → list_all is_own_item (cleared items)
    ≡ list_all is_own_item items
own_cleared [] = refl
own_cleared (h.Open field head ∷ rest) = ap₂ (λ a b. not a && b) (specifier_cleared head)
    (own_cleared rest)
own_cleared (h.Ident field x ctxt role ∷ rest) =
    ap (λ b. is_own_item (h.Ident field x 0 role) && b) (own_cleared rest)
own_cleared (h.Hole field ∷ rest) = own_cleared rest
own_cleared (h.Close ∷ rest) = own_cleared rest

-- ---- each step belongs to a name
names_cleared : (items : List Item) → length (idents_among (cleared items)) ≡ length (idents_among items)
names_cleared [] = refl
names_cleared (h.Open field head ∷ rest) = names_cleared rest
names_cleared (h.Ident field x ctxt r.Word ∷ rest) = names_cleared rest
names_cleared (h.Ident field x ctxt r.Binding ∷ rest) = ap suc (names_cleared rest)
names_cleared (h.Ident field x ctxt r.Reference ∷ rest) = ap suc (names_cleared rest)
names_cleared (h.Hole field ∷ rest) = names_cleared rest
names_cleared (h.Close ∷ rest) = names_cleared rest

occurrence_names : (s : Spot) (items : List Item) → length (occurrences_from s items)
    ≡ length (idents_among items)
occurrence_names s [] = refl
occurrence_names s (h.Open field head ∷ rest) = occurrence_names (past s (h.Open field head)) rest
occurrence_names s (h.Ident field x ctxt r.Word ∷ rest) =
    occurrence_names (past s (h.Ident field x ctxt r.Word)) rest
occurrence_names s (h.Ident field x ctxt r.Binding ∷ rest) =
    ap suc (occurrence_names (past s (h.Ident field x ctxt r.Binding)) rest)
occurrence_names s (h.Ident field x ctxt r.Reference ∷ rest) =
    ap suc (occurrence_names (past s (h.Ident field x ctxt r.Reference)) rest)
occurrence_names s (h.Hole field ∷ rest) = occurrence_names (past s (h.Hole field)) rest
occurrence_names s (h.Close ∷ rest) = occurrence_names (past s h.Close) rest

symbol_kept : {ident : Ident} {much : Whole} {step : Step} → IsStepTo ident much step →
    (its : Ident) → KeepsSymbol step its
symbol_kept {step = step} to its unspelled =
    (bytes_eq-Decides step.ident.0 its.0).0
    (by (bytes_eq step.ident.0 its.0) (sym (to.spells step.ident.0 its.0) ∙ unspelled))
  where
    by : (b : Bool) → not b ≡ false → b ≡ true
    by true e = refl
    by false e = absurd (false≢true (sym e))

step_kept : {p : Program} {list : List ℕ} {context : BundleContexts} {m : ℕ} {kind : ModuleKind}
    {o : Occurrence} {step : Step} →
    IsStep p list context m kind o step → (its : Ident) → KeepsSymbol step its
step_kept (keeps unused uncalled to) its = symbol_kept to its
step_kept (uses used to) its = symbol_kept to its
step_kept (calls called to) its = symbol_kept to its

all_kept : (p : Program) (list : List ℕ) (context : BundleContexts) (m : ℕ) (kind : ModuleKind)
    (os : List Occurrence)
    (steps : List Step) (idents : List Ident) → AllZip (IsStep p list context m kind) os steps →
    length os ≡ length idents →
    AllZip KeepsSymbol steps idents
all_kept p list context m kind [] [] [] each same = tt
all_kept p list context m kind [] [] (i ∷ idents) each same = absurd (omega (arith, same))
all_kept p list context m kind [] (step ∷ steps) idents each same = absurd each
all_kept p list context m kind (o ∷ os) [] idents each same = absurd each
all_kept p list context m kind (o ∷ os) (step ∷ steps) [] each same = absurd (omega (arith, same))
all_kept p list context m kind (o ∷ os) (step ∷ steps) (i ∷ idents) each same = (
  step_kept each.0 i,
  all_kept p list context m kind os steps idents each.1
      (omega (arith, same)),
)

-- and spells out what is short where the symbol changes
step_spells : {p : Program} {list : List ℕ} {context : BundleContexts} {m : ℕ} {kind : ModuleKind}
    {o : Occurrence} {step : Step} → IsStep p list context m kind o step → Spells step
step_spells (keeps unused uncalled to) = to.spells
step_spells (uses used to) = to.spells
step_spells (calls called to) = to.spells

all_spell : (p : Program) (list : List ℕ) (context : BundleContexts) (m : ℕ) (kind : ModuleKind)
    (os : List Occurrence) (steps : List Step) → AllZip (IsStep p list context m kind) os steps →
    AllSpell steps
all_spell p list context m kind [] [] each = tt
all_spell p list context m kind [] (step ∷ steps) each = absurd each
all_spell p list context m kind (o ∷ os) [] each = absurd each
all_spell p list context m kind (o ∷ os) (step ∷ steps) each =
    (step_spells each.0, all_spell p list context m kind os steps each.1)

-- ---- `import.meta`
meta_agrees : (p : Program) (list : List ℕ) (context : BundleContexts) (m : ℕ) →
    AgreeOnMeta (meta_ident p list context m) (meta_meant p m)
meta_agrees p list context m = by (has_import_meta (tree_of p m))
  where
    by : (b : Bool) → AgreeOnMeta (if b then Some (ident_of_label p list context (Meta m)) else
        None) (if b then Some (Known (Meta m)) else None)
    by true = tt
    by false = tt

only_meta : (p : Program) (m : ℕ) (meant : Meant) → meta_meant p m ≡ Some meant →
    meant ≡ Known (Meta m)
only_meta p m meant is = by (has_import_meta (tree_of p m)) is
  where
    by : (b : Bool) → (if b then Some (Known (Meta m)) else None) ≡ Some meant →
        meant ≡ Known (Meta m)
    by true e = sym (same_Some (Known (Meta m)) meant e)
    by false e = absurd (none-some meant e)

-- ---- notes of all
module _ (p : Program) (list : List ℕ) (m : ℕ) (kind : ModuleKind) (statement : List Element)
    (top : TopItem)
    (set : IsSet p list m kind statement top) (context : BundleContexts) where
  abbrev inner : List Denoted
  inner = inner_here p list m kind statement top set

  record AllHaveNotes (os : List Occurrence) (steps : List Step) : Type 0 where
    notes : List Note
    noted : AllNoted p list context m kind (inner_here p list m kind statement top set) os steps
        notes
    agrees : AgreeInTurn (own_sense p m kind) (inner_here p list m kind statement top set) os notes
    same : Agree steps notes

  all_notes : (os : List Occurrence) (steps : List Step) → AllZip (IsStep p list context m kind) os
      steps →
      ((i : ℕ) (o : Occurrence) → slice_get os i ≡ Some o → (step : Step) →
      IsStep p list context m kind o step →
      HasNote p list m kind statement top set context o step) → AllHaveNotes os steps
  all_notes [] [] each one = record { notes = []; noted = tt; agrees = tt; same = tt }
  all_notes [] (step ∷ steps) each one = absurd each
  all_notes (o ∷ os) [] each one = absurd each
  all_notes (o ∷ os) (step ∷ steps) each one =
      let first = one 0 o refl step each.0 in
      let rest = all_notes os steps each.1 (λ i q e. one (suc i) q e) in
      record {
        notes = first.note ∷ rest.notes;
        noted = (first.is, rest.noted);
        agrees = (first.agrees, rest.agrees);
        same = (first.is.is.its_whole, rest.same);
      }

  one_note : (i : ℕ) (o : Occurrence) → slice_get
      (occurrences_from (here p list m kind statement top set).s top.items) i ≡ Some o →
      (step : Step) → IsStep p list context m kind o step → HasNote p list m kind statement top set
      context o step
  one_note i o e step (keeps unused uncalled to) =
      kept p list m kind statement top set context o step
      (of_top p list m kind statement top set i o e) unused uncalled to
  one_note i o e step (uses {n = n} {t = t} its to) =
      used p list m kind statement top set context o step
      (of_top p list m kind statement top set i o e) n t its to
  one_note i o e step (calls {c = c} its to) =
      called p list m kind statement top set context o step
      (of_top p list m kind statement top set i o e) c its to

-- ---- what is replaced
met_there : (tree : List Item) (place field : ℕ) → slice_get tree place
    ≡ Some (h.Open field (h.MetaPropExpr k.ImportMeta)) →
    has_head is_import_meta tree ≡ true
met_there [] place field at = absurd (none-some _ at)
met_there (h.Open its head ∷ rest) (suc place) field at =
    by (is_import_meta head) (met_there rest place field at)
  where
    by : (b : Bool) → has_head is_import_meta rest ≡ true →
        (elim b [ true ↦ true | false ↦ has_head is_import_meta rest ]) ≡ true
    by true more = refl
    by false more = more
met_there (h.Ident its x ctxt role ∷ rest) (suc place) field at = met_there rest place field at
met_there (h.Hole its ∷ rest) (suc place) field at = met_there rest place field at
met_there (h.Close ∷ rest) (suc place) field at = met_there rest place field at
met_there (x ∷ rest) zero field at =
    subst (λ y. has_head is_import_meta (y ∷ rest) ≡ true)
    (sym (same_Some x (h.Open field (h.MetaPropExpr k.ImportMeta)) at)) refl

meta_is : (p : Program) (m : ℕ) → MetaIs p m (meta_meant p m)
meta_is p m place field at =
    ap (λ b. if b then Some (Known (Meta m)) else None) (met_there (tree_of p m) place field at)

-- ---- the whole
pub told : (p : Program) (list : List ℕ) (context : BundleContexts) {m : ℕ} {kind : ModuleKind} →
    AreTreesSound p list → IsReached p m →
    HasKind p m kind → (statement : List Element) {made : List Item} →
    Contains (own_statements (tree_of p m)) statement →
    (its : IsStatedAs p list context m kind statement made) →
    IsStatementTold p list context m kind statement made its
told p list context {m = m} {kind = kind} sound reached has_kind statement {made = made} own its =
    record {
      inner = inner_is ∙ sym (ap (λ os. each_denoted_once
          (filter (is_inside 0) (map (denoted_in_module p m kind) os))) there);
      notes = noted.notes;
      each =
          subst (λ os. AllNoted p list context m kind
          (each_denoted_once (filter (is_inside 0) (map (denoted_in_module p m kind) os))) os its.steps
          noted.notes)
          (sym there) noted.noted;
      same = same;
      means =
          top_means p m kind has_kind (meta_meant p m) (default_meant m)
          (listing p list m kind statement its.top set) replaces
          0 form_is.xs [] (plain_nodes form_is.are) form_is.is its.top its.there noted.notes []
          same.marks source statement its.states agrees
          (default_means p list m kind statement its.top set);
      kept_form =
          keeps-form p m kind (inner_bindings (own_view p m kind) 0 statement) (meta_meant p m)
          (listing p list m kind statement its.top set) replaces form_is.xs []
          (plain_nodes form_is.are) form_is.is its.top its.there noted.notes
          (record {
            steps = its.steps;
            meta = meta_ident p list context m;
            clears_notes = true;
          }) (default_ident context m) its.given made its.is_given states own_given cover noted.same
          (all_spell p list context m kind (occurrences_from standing.s its.top.items) its.steps steps_of)
          (meta_agrees p list context m) statement its.states agrees;
      default =
          λ is.
          default_is_meant p list m kind statement its.top set
          (ap declares_default (sym its.is_given) ∙ declares_cleared its.given ∙ is);
    }
  where
    set : IsSet p list m kind statement its.top
    set = record {
      sound = sound;
      reached = reached;
      has_kind = has_kind;
      own = own;
      there =
          its.there;
      states = its.states;
    }

    form_is : HasForm (tree_of p m)
    form_is = form p list m kind statement its.top set

    standing : StandsThere (tree_of p m) (around_spot h.Module 0 0 ∷ []) its.top
    standing = here p list m kind statement its.top set

    there : occurrences_in (tree_of p m) its.top ≡ occurrences_from standing.s its.top.items
    there = occurrences_there standing

    steps_of : AllZip (IsStep p list context m kind) (occurrences_from standing.s its.top.items)
        its.steps
    steps_of = subst (λ os. AllZip (IsStep p list context m kind) os its.steps) there its.each

    noted : AllHaveNotes p list m kind statement its.top set context
        (occurrences_from standing.s its.top.items) its.steps
    noted =
        all_notes p list m kind statement its.top set context
        (occurrences_from standing.s its.top.items) its.steps steps_of
        (one_note p list m kind statement its.top set context)

    own_given : AreOwn its.given
    own_given =
        sym (own_cleared its.given)
        ∙ ap (list_all is_own_item) its.is_given
        ∙ stated_fit-own (item_fit p list m kind statement its.top set) its.top.start statement
        its.states

    cover : Cover its.steps its.given
    cover =
        all_kept p list context m kind (occurrences_from standing.s its.top.items) its.steps
        (idents_among its.given) steps_of
        (occurrence_names standing.s its.top.items
        ∙ ap (λ items. length (idents_among items)) (sym its.is_given)
        ∙ names_cleared its.given)

    states : StatesList (record {
      steps = its.steps;
      meta =
          meta_ident p list context m;
      clears_notes = true;
    }) (default_ident context m) its.given made
    states = states_alone its.by own_given its.steps its.behind refl cover

    same : SameStated (record {
      steps = its.steps;
      meta =
          meta_ident p list context m;
      clears_notes = true;
    }) (meta_meant p m) noted.notes
        (default_ident context m) (default_meant m) its.given made
    same = states_same states own_given cover (meta_meant p m) noted.notes (default_meant m)
        noted.same (meta_agrees p list context m)

    source : MarkedStated (meta_meant p m) (default_meant m) noted.notes its.top.items same.marks []
    source =
        subst (λ items. MarkedStated (meta_meant p m) (default_meant m) noted.notes items
        same.marks []) its.is_given
        (stated_cleared (meta_meant p m) same.source)

    inner_is : inner_bindings (own_view p m kind) 0 statement
        ≡ each_denoted_once (filter (is_inside 0)
        (map (denoted_in_module p m kind) (occurrences_from standing.s its.top.items)))
    inner_is =
        ap each_denoted_once
        (stated_denotes source (own_view p m kind) 0 standing.s standing.tail standing.at statement
        (ap (λ place. stated place its.top.items) standing.place ∙ its.states))

    spot : spot_before (tree_of p m) its.top.start ≡ standing.s
    spot = ap (spot_before (tree_of p m)) (sym standing.place) ∙ at-spot standing.at

    agrees : AgreeInTurn (own_sense p m kind) (inner_bindings (own_view p m kind) 0 statement)
        (occurrences_from (spot_before (tree_of p m) its.top.start) its.top.items) noted.notes
    agrees =
        subst (λ s. AgreeInTurn (own_sense p m kind) (inner_bindings (own_view p m kind) 0 statement)
        (occurrences_from s its.top.items) noted.notes)
        (sym spot)
        (subst (λ ds. AgreeInTurn (own_sense p m kind) ds (occurrences_from standing.s its.top.items)
        noted.notes) (sym inner_is) noted.agrees)

    replaces : ReplacesNotable (own_sense p m kind) (meta_meant p m)
    replaces =
        replaces_notable p m kind (meta_meant p m) (only_meta p m) (meta_is p m)
        (all_nodes p list m kind statement its.top set)
        (listing p list m kind statement its.top set)
