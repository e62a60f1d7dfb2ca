-- The set gains the copy of the name, which says what the name says.
use Rattle.std.proofs.Common.{◌∷◌, ◌++◌, [], ◌∙◌, ap, subst, Contains, arith}
use Rattle.bundle_tree_names.specs.FileName.{name_of}
use Rattle.bundle_tree_names.proofs.Numbering.{IsLonger, insert_key-IsLonger}
use Rattle.bundle_tree_names.proofs.generator.ModuleIdGenerator.add.Goals as goal

longer : (c : goal.After-from_u32) → IsLonger c.self.inside.files.keys c.args.file.now c.insert.new.self.keys
longer c =
    insert_key-IsLonger c.self.inside.files.keys c.args.file.now c.in_ok-file.file c.insert.new.self.keys c.self.invariant.0
    (λ h. c.requires (subst (λ l. Contains l (name_of c.args.file.now)) c.self.view_is h)) c.in_ok-file.ensures.cases c.in_ok-insert.ensures.keys

pub invariant_of-self-2 : goal.invariant_of-self-2
invariant_of-self-2 c = let l = longer c in (l.distinct, omega arith)

pub returns-clause-added : goal.returns-clause-added
returns-clause-added c = (longer c).names ∙ ap (λ l. l ++ name_of c.args.file.now ∷ []) c.self.view_is

pub returns-clause-distinct : goal.returns-clause-distinct
returns-clause-distinct c = (longer c).distinct
