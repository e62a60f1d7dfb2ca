-- What is found at the places is the module's.
use Rattle.std.proofs.Common.{ℕ, Option, None, refl, ap, sym, ◌∙◌, arith}
use Rattle.std.specs.Map.Iter.{deref_pair}
use Rattle.std.specs.Prelude.{option_copied, option_map, unwrap_or}
use Rattle.bundle_tree_names.specs.declared.file_name.FileName.{FileName}
use Rattle.bundle_scope_denote.specs.declared.table.Denotations.{Denotations}
use Rattle.bundle_rules.specs.Kept.{local_context}
use Rattle.bundler_entry.specs.Parts.{names_by}
use Rattle.bundler_entry.proofs.PartsLemmas.{file-there}
use Rattle.bundler_entry.proofs.made.part_of.Goals as goal

pub returns-clause-part : goal.returns-clause-part
returns-clause-part c = λ leads.
    let call = c.args.call.now in
    let reached = c.args.reached.now in
    let source = c.in_ok-source.source.now in
    let k = c.args.which in
    let file : FileName × ℕ = (c.in_ok-id.field-0-0.now, c.in_ok-id.id.now) in
    record {
      source = source;
      there = sym c.source_at.ensures ∙ ap option_copied c.in_ok-source.was;
      file = file;
      its_file = file-there call reached k file
          (sym (ap (option_map deref_pair) c.in_ok-id.was) ∙ c.file_at.ensures);
      items = c.as_slice.ensures.value;
      denotations = c.names_of-denotations.ensures
          ∙ ap (λ (o : Option (Option Denotations)). names_by source (unwrap_or o None))
          c.body_in-body.ensures;
      tables = refl;
      leads = leads;
      local = λ small. c.local_context.ensures (omega (arith, small, c.as_u32.ensures))
          ∙ ap local_context c.as_u32.ensures;
      written = refl;
    }
