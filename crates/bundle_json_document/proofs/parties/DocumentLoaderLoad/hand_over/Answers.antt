-- The module is that of the file, and other files have theirs.
use Rattle.std.proofs.Common.{◌≡◌, None, Some, Equal, ap, nat_cmp, refl, string_bytes, string_cmp, subst}
use Rattle.std.specs.BTreeMap.{get_by_text, UpdatesBy}
use Rattle.std.specs.Cmp.Lexicographic.{slice_cmp}
use Rattle.bundle_tree_names.specs.FileName.{name_of}
use Rattle.bundle_json_document.proofs.Maps.{handed, still_gives, still_lacks}
use Rattle.bundle_json_document.proofs.parties.DocumentLoaderLoad.hand_over.Goals as goal

pub returns-clause-answer : goal.returns-clause-answer
returns-clause-answer c =
    let files = c.args.self.now.files in
    handed files (name_of c.args.file.now) (string_bytes c.in-Real.name) _ (ap name_of c.in-Real.is) (string_bytes c.in-Some.name) refl
    (subst (λ bytes. slice_cmp nat_cmp bytes (string_bytes c.in-Some.name) ≡ Equal) c.as_str.ensures.value c.in-Some.ensures.same_key)
    (subst (λ bytes. Some c.in-Some.module ≡ get_by_text files bytes) c.as_str.ensures.value c.in-Some.ensures.value)

pub returns-clause-others : goal.returns-clause-others
returns-clause-others c =
    let old = c.args.self.now.files in
    let new = c.remove_entry.new.self in
    still_gives old new (string_bytes c.in-Real.name)
    (subst (λ bytes. UpdatesBy string_cmp (λ k. slice_cmp nat_cmp bytes (string_bytes k)) old new None) c.as_str.ensures.value c.remove_entry.ensures.updates)
    (name_of c.args.file.now) (ap name_of c.in-Real.is)

pub returns-clause-other_failures : goal.returns-clause-other_failures
returns-clause-other_failures c =
    let old = c.args.self.now.files in
    let new = c.remove_entry.new.self in
    still_lacks old new (string_bytes c.in-Real.name)
    (subst (λ bytes. UpdatesBy string_cmp (λ k. slice_cmp nat_cmp bytes (string_bytes k)) old new None) c.as_str.ensures.value c.remove_entry.ensures.updates)
    (name_of c.args.file.now) (ap name_of c.in-Real.is)
