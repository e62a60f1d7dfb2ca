-- What the definitions allow that keeps no marks, by the smallest examples; and what always fits.
use Rattle.std.proofs.Common.{◌≡◌, ◌≢◌, true, false, not, List, [], ◌∷◌, ◌++◌, Some, None, length, refl, sym, ◌∙◌, arith}
use Rattle.std.specs.Prelude.{bytes_eq, codes}
use Rattle.std.specs.List.{AllZip, All}
use Rattle.std.proofs.lemmas.List.Elements.{All-head, All-tail}
use Rattle.std.proofs.lemmas.Bool.{not-false, true≢false}
use Rattle.std.proofs.lemmas.Slice.Eq.{bytes_eq-Decides}
use Rattle.bundle_syntax.specs.declared.piece.Role.TheVariants as r
use Rattle.bundle_syntax.specs.Item as h
use Rattle.bundle_syntax.specs.Item.{Item}
use Rattle.bundle_rules.specs.Nodes.{Text}
use Rattle.bundle_rules.specs.Idents.{Ident}
use Rattle.bundle_rules.specs.Marks as m
use Rattle.bundle_rules.specs.Meaning.{Meant}
use Rattle.bundle_rules.specs.Rebuilds.{with_idents}
use Rattle.bundle_tree_places.specs.Edits.{Anywhere, InObject, node, in_its_place}
use Rattle.bundle_tree_rebuild.specs.Work.{Step, Work, is_spelled_out_by, plain_step, rewrite_step}
use Rattle.bundle_tree_rebuild.specs.declared.rewrite.Rewrite.{Rewrite}
use Rattle.bundle_tree_rebuild.specs.declared.rewrite.Whole.TheVariants.{Alone, Reads}
use Rattle.bundle_merge_theory.specs.noted.Marked.{Marked, marks_there}
use Rattle.bundle_merge_theory.specs.noted.Marked as d
use Rattle.bundle_tree_rebuild.specs.Becomes.{Becomes, reference}
use Rattle.bundle_tree_rebuild.specs.Becomes as b
use Rattle.bundle_merge_theory.specs.walked.Keeps.{Same}
use Rattle.bundle_merge_theory.proofs.walked.Rewriting.{becomes_same}
use Rattle.bundle_merge_theory.specs.walked.Rewrites.{KeepsSymbol}

-- Where OfReads stands in an object literal: `ns.a` there becomes the name y, which is then the
-- shorthand `{ y }`.

in_object : List Item
in_object =
    node 0 h.MemberExpr
    (h.Ident 0 (codes "ns") 0 r.Reference ∷ node 1 (h.IdentName (codes "a")) [])

read_there : (meant : Meant) →
    Marked None InObject (record { meant = meant; whole = Reads 1 } ∷ []) in_object
    (m.Name 0 meant ∷ []) []
unfolding in_object
read_there meant =
    d.OfReads 0 1 (h.Ident 0 (codes "ns") 0 r.Reference ∷ node 1 (h.IdentName (codes "a")) []) refl

name_there : (meant : Meant) →
    Marked None InObject (record { meant = meant; whole = Alone } ∷ [])
    (reference 0 (codes "y", 0)) (marks_there InObject 0 (codes "y") meant) []
name_there meant = d.Name InObject 0 (codes "y") 0 r.Reference refl

marks_differ : (meant : Meant) → m.Name 0 meant ∷ [] ≢ marks_there InObject 0 (codes "y") meant
marks_differ meant same = cc

-- A specifier of one name, as `export { x }`, whose symbol changes: `export { y as x }` has one
-- mark more.

one_name : List Item
one_name = h.Open 0 h.ExportNamedSpecifier ∷ h.Ident 0 (codes "x") 0 r.Reference ∷ h.Close ∷ []

two_names : with_idents one_name ((codes "y", 0) ∷ [])
    ≡ h.Open 0 h.ExportNamedSpecifier ∷ h.Ident 0 (codes "y") 0 r.Reference
    ∷ h.Ident 1 (codes "x") 0 r.Word ∷ h.Close ∷ []
unfolding one_name
two_names = refl

-- Without spelling out, a shorthand whose symbol changes has another key.

other_key : in_its_place InObject
    (Some (record { ident = (codes "y", 0); is_spelled_out = false })) 0 (codes "x") 0 r.Reference
    ≡ h.Ident 0 (codes "y") 0 r.Reference ∷ []
other_key = refl

-- Steps that spell out where the symbol changes, as rewrites do, fit any names of their number.

abbrev pub SpellsBySymbol : Step → Type 0
SpellsBySymbol step = (x : Text) → is_spelled_out_by step.spelling step.ident.0 x ≡ not (bytes_eq step.ident.0 x)

pub rewrites_spell : (rewrite : Rewrite) → SpellsBySymbol (rewrite_step rewrite)
rewrites_spell rewrite x = refl

one_by_symbol : (step : Step) (ident : Ident) → SpellsBySymbol step → KeepsSymbol step ident
one_by_symbol step ident is spelled =
    (bytes_eq-Decides step.ident.0 ident.0).0
    (not-false (bytes_eq step.ident.0 ident.0) (sym (is ident.0) ∙ spelled))

pub by_symbol : (steps : List Step) (names : List Ident) → All SpellsBySymbol steps →
    length steps ≡ length names → AllZip KeepsSymbol steps names
by_symbol [] [] all same = tt
by_symbol [] (x ∷ names) all same = absurd (omega arith)
by_symbol (step ∷ steps) [] all same = absurd (omega arith)
by_symbol (step ∷ steps) (x ∷ names) all same = (
  one_by_symbol step x (All-head SpellsBySymbol step steps all),
  by_symbol steps names
      (All-tail SpellsBySymbol step steps all) (omega arith),
)

-- `use(ns.a, { x });` becomes `use(a1, { x: y });`, and all that is asked for is there.

uses : List Item
uses =
    node 0 h.ExprStmt
    (node 0 h.CallExpr
    (h.Ident 0 (codes "use") 0 r.Reference
    ∷ (node 1 (h.ExprOrSpread false)
    (node 1 h.MemberExpr
    (h.Ident 0 (codes "ns") 0 r.Reference ∷ node 1 (h.IdentName (codes "a")) []))
    ++ node 1 (h.ExprOrSpread false)
    (node 1 h.ObjectLit (h.Ident 0 (codes "x") 0 r.Reference ∷ [])))))

used : List Item
used =
    node 0 h.ExprStmt
    (node 0 h.CallExpr
    (h.Ident 0 (codes "use") 1 r.Reference
    ∷ (node 1 (h.ExprOrSpread false) (h.Ident 1 (codes "a1") 5 r.Reference ∷ [])
    ++ node 1 (h.ExprOrSpread false)
    (node 1 h.ObjectLit
    (node 0 h.KeyValueProp
    (node 0 (h.IdentName (codes "x")) [] ++ h.Ident 1 (codes "y") 7 r.Reference ∷ []))))))

abbrev use_step : Step
use_step = plain_step (record { ident = (codes "use", 1); is_spelled_out = false })

abbrev read_step : Step
read_step = record (plain_step (record { ident = (codes "a1", 5); is_spelled_out = true })) { whole = Reads 1 }

abbrev name_step : Step
name_step = plain_step (record { ident = (codes "y", 7); is_spelled_out = true })

abbrev steps_of_use : List Step
steps_of_use = use_step ∷ read_step ∷ name_step ∷ []

work_of_use : Work
work_of_use = record { steps = steps_of_use; meta = None; clears_notes = true }

walk_of_use : Becomes Anywhere work_of_use uses used
    (record { steps = []; meta = None; clears_notes = true })
unfolding uses used work_of_use
walk_of_use =
    b.Inside 0 h.ExprStmt refl (b.Inside 0 h.CallExpr refl (b.Joined (b.Name Anywhere 0 (codes "use") 0 r.Reference refl)
    (b.Joined (b.Inside 1 (h.ExprOrSpread false) refl (b.OfReads 1 (codes "a1", 5) (h.Ident 0 (codes "ns") 0 r.Reference ∷ node 1 (h.IdentName (codes "a")) []) refl))
    (b.Inside 1 (h.ExprOrSpread false) refl (b.Inside 1 h.ObjectLit refl (b.Name InObject 0 (codes "x") 0 r.Reference refl))))))

same_of_use : (f a x : Meant) →
    Same Anywhere work_of_use None
    (record { meant = f; whole = Alone } ∷ record { meant = a; whole = Reads 1 } ∷ record
    { meant = x; whole = Alone } ∷ [])
    uses used
unfolding uses used work_of_use
same_of_use f a x =
    becomes_same walk_of_use refl refl
    (λ kept. refl, (λ kept. absurd (true≢false kept), (λ kept. absurd (true≢false kept), tt)))
    None _ (refl, (refl, (refl, tt))) tt
