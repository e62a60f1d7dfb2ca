-- A file is found by its label.
use Rattle.std.proofs.Common.{◌∙◌, ap, map, position, string_bytes, sym, true, false}
use mathlib.Core.Bool.{beq}
use Rattle.bundle_tree_names.specs.FileName.{name_eq, name_of}
use Rattle.bundler_call.specs.Held.{file_named}
use Rattle.bundler_call.specs.Marks.{is_same_mark}
use Rattle.bundler_call.proofs.Holding.{within_of, name_found, names_found_once}
use Rattle.bundler_call.proofs.kept.number_in.Goals as goal

pub returns-in-Real-clause-number : goal.returns-in-Real-clause-number
returns-in-Real-clause-number c =
    c.get.ensures.place ∙ sym (name_found c.args.files.now (true, string_bytes c.in-Real.path))
    ∙ ap (λ f. position (name_eq (name_of f)) (map file_named c.args.files.now)) (sym c.in-Real.is)

pub returns-in-Real-clause-within : goal.returns-in-Real-clause-within
returns-in-Real-clause-within c = within_of (is_same_mark beq (true, string_bytes c.in-Real.path)) c.args.files.now c.get.result c.get.ensures.place

pub returns-in-Real-clause-once : goal.returns-in-Real-clause-once
returns-in-Real-clause-once c = names_found_once c.args.files.now c.get.result c.get.ensures.once

pub returns-in-Custom-clause-number : goal.returns-in-Custom-clause-number
returns-in-Custom-clause-number c =
    c.get-in-Custom.ensures.place ∙ sym (name_found c.args.files.now (false, string_bytes c.in-Custom.name))
    ∙ ap (λ f. position (name_eq (name_of f)) (map file_named c.args.files.now)) (sym c.in-Custom.is)

pub returns-in-Custom-clause-within : goal.returns-in-Custom-clause-within
returns-in-Custom-clause-within c = within_of (is_same_mark beq (false, string_bytes c.in-Custom.name)) c.args.files.now c.get-in-Custom.result c.get-in-Custom.ensures.place

pub returns-in-Custom-clause-once : goal.returns-in-Custom-clause-once
returns-in-Custom-clause-once c = names_found_once c.args.files.now c.get-in-Custom.result c.get-in-Custom.ensures.once
