-- An entry that has the name or the file of one before it is the first such.
use Rattle.std.proofs.Common.{inl, inr, map, refl, sym}
use Rattle.bundler_call.specs.Kept.{entry_of}
use Rattle.bundler_call.proofs.Leading.{as_many_entries, apart_all, list_told, not_both, one_more}
use Rattle.bundler_call.proofs.bundler.refuse_doubled_entry.Goals as goal

pub loop-name-preserved : goal.loop-name-preserved
loop-name-preserved c =
    one_more c.args.entries.now c.loop-name.name-index _ c.loop-name-test.true (sym c.loop-name-item.is)
    c.loop-name.names.keys c.as_str.result.now c.in_ok-is_new_name.is_new_name c.as_str.ensures.value c.in_ok-is_new_name.ensures.added c.loop-name.invariant.0
    c.loop-name.files c.in_ok-is_new_file.is_new_file c.in_ok-is_new_file.ensures.added c.loop-name.invariant.1
    c.loop-name.invariant.2
    c.insert.new.self.keys c.as_str.result c.note_file.new.files refl
    c.if-not-is_new_file.false c.in_ok-is_new_name.ensures.keys (c.in_ok-is_new_file.ensures.put c.if-not-is_new_file.false.1)

pub returns-then-not-is_new_file-clause-doubled : goal.returns-then-not-is_new_file-clause-doubled
returns-then-not-is_new_file-clause-doubled c =
    list_told (map entry_of c.args.entries.now) _ _ c.in_ok-doubled_entry.ensures (not_both c.args.entries.now c.loop-name.name-index _ c.loop-name-test.true (sym c.loop-name-item.is)
    c.loop-name.names.keys c.as_str.result.now c.in_ok-is_new_name.is_new_name c.as_str.ensures.value c.in_ok-is_new_name.ensures.added c.loop-name.invariant.0
    c.loop-name.files c.in_ok-is_new_file.is_new_file c.in_ok-is_new_file.ensures.added c.loop-name.invariant.1
    c.loop-name.invariant.2
    (elim c.if-not-is_new_file.either [ inl file ↦ inr file.1 | inr name ↦ inl name ]))

pub returns-clause-apart : goal.returns-clause-apart
returns-clause-apart c = apart_all (map entry_of c.args.entries.now) c.loop-name.name-index (as_many_entries c.args.entries.now c.loop-name.name-index c.loop-name-test.false) c.loop-name.invariant.2
