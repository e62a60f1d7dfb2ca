-- What is noted of a module tells whether it declares a name twice.
use Rattle.std.proofs.Common.{◌≡◌, ◌<◌, ℕ, List, Option, length, get_or, ap, ◌∙◌}
use Rattle.std.specs.Option.{option_map}
use Rattle.std.proofs.lemmas.Option.{slice_get-get_or}
use Rattle.bundle_rules.specs.Doubled.{first_doubled}
use Rattle.bundle_rules.specs.Meaning.{HasKind}
use Rattle.bundle_rules.specs.Program.{Program, tree_of}
use Rattle.bundle_rules.specs.Scopes.{ModuleKind}
use Rattle.bundle_scope_denote.specs.Kinds.{kind_as}
use Rattle.bundle_scope_denote.specs.Listed.{place_and_symbol, doubled_told}
use Rattle.bundle_scope_denote.specs.declared.table.Doubled.{Doubled}
use Rattle.bundle_link.specs.Judged.{AreNotesOf, noted_as}
use Rattle.bundle_link.specs.declared.judging.DoubledNames.{DoubledNames}
use Rattle.bundle_link.proofs.ToldLemmas.{first_in, none_in, none_more, one_kind}
use Rattle.bundle_link.proofs.judging.doubled_in.Goals as goal

-- what is noted in turn is of the module at that place
told-at : (q : Program) (notes : List DoubledNames) (m : ℕ) (other : DoubledNames) (kind : ModuleKind) (found : Option Doubled) → m < length notes → AreNotesOf q notes → HasKind q m kind → found ≡ noted_as kind (get_or notes m other) → option_map doubled_told found ≡ option_map place_and_symbol (first_doubled kind (tree_of q m))
told-at q notes m other kind found within are has is =
    ap (option_map doubled_told) is
    ∙ are m (get_or notes m other) (slice_get-get_or notes m other within) kind has

pub returns-in-Some : goal.returns-in-Some
returns-in-Some c = λ q are w.
    let notes = c.args.notes.now in
    let m = c.loop-module.module in
    let kind = kind_as c.kind_of.result in
    let has = c.kind_of.ensures q w in
    first_in q (length notes) m kind c.doubled_as.result c.in-Some.doubled
    (told-at q notes m _ kind c.doubled_as.result c.loop-module-test.true are has c.doubled_as.ensures)
    c.in-Some.is c.loop-module-test.true has (c.loop-module.invariant q are w)

pub loop-module-preserved : goal.loop-module-preserved
loop-module-preserved c = λ q are w.
    let notes = c.args.notes.now in
    let m = c.loop-module.module in
    let kind = kind_as c.kind_of.result in
    let has = c.kind_of.ensures q w in
    none_more q m kind (c.loop-module.invariant q are w) has
    (none_in q m kind c.doubled_as.result
    (told-at q notes m _ kind c.doubled_as.result c.loop-module-test.true are has c.doubled_as.ensures)
    c.in_default.is)
    (one_kind q m)
