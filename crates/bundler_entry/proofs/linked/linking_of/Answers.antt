-- What is told by places is told of the program.
use Rattle.std.proofs.Common.{List, Result, length, refl, sym, ◌∙◌, subst}
use Rattle.bundle_link_index.specs.declared.target.LinkModule.{LinkModule}
use Rattle.bundle_link_targets.specs.declared.linking.Linking.{Linking}
use Rattle.bundle_link.specs.Judged.{AreReadOf, IsJudgedAs}
use Rattle.bundle_link.specs.declared.judging.DoubledNames.{DoubledNames}
use Rattle.bundle_link.specs.declared.judging.ModuleFault.{ModuleFault}
use Rattle.bundler_entry.specs.Linked.{AreNotes, AreLinkModules, HasPlaces}
use Rattle.bundler_entry.specs.declared.source.ReadFile.{ReadFile}
use Rattle.bundler_entry.proofs.LinkedLemmas.{by_place, first_told, has_places, is_read, linked_in}
use Rattle.bundler_entry.proofs.linked.linking_of.Goals as goal

pub returns-in-Ok-clause-linked : goal.returns-in-Ok-clause-linked
returns-in-Ok-clause-linked c = λ p entry w r.
    let call = c.args.call.now in
    let reached = c.args.reached.now in
    let n = length reached.places.items in
    let parts = c.in_ok-modules.modules.items in
    let src = c.as_slice-sources.ensures.value in
    let places = subst (λ (s : List ReadFile). HasPlaces s reached n) (sym src) (has_places p entry call w reached r n refl) in
    let are = subst (λ (s : List ReadFile). AreLinkModules s reached n parts) src (c.in_ok-modules.ensures places) in
    let notes = c.in_ok-notes.notes.items in
    let are_notes = subst (λ (s : List ReadFile). AreNotes s reached n notes) src (c.in_ok-notes.ensures places) in
    let q = by_place p entry call w reached r n refl parts are in
    let setting = c.setting_of.result in
    let read = is_read p entry call w reached r n refl parts are setting notes are_notes (c.setting_of.ensures.require ∙ sym w.links.0) (w.iife ∙ sym c.setting_of.ensures.iife) in
    let handed = subst (λ (ms : List LinkModule). AreReadOf q ms notes setting) (sym c.deref.ensures.value) read in
    let found = c.in_ok-found.ensures q (subst (λ (ns : List DoubledNames). AreReadOf q c.deref.result.now ns setting) (sym c.deref-2.ensures.value) handed) in
    let told = subst (λ (ms : List LinkModule). IsJudgedAs q (length ms) c.in_ok-found.found) c.deref.ensures.value found in
    linked_in p entry call w reached r n refl parts are c.in-Ok.linking
    (subst (λ (f : Result Linking ModuleFault). IsJudgedAs q (length parts) f) c.in-Ok.is told)

pub returns-clause-refused : goal.returns-clause-refused
returns-clause-refused c = λ p entry w r.
    let call = c.args.call.now in
    let reached = c.args.reached.now in
    let n = length reached.places.items in
    let parts = c.in_ok-modules.modules.items in
    let src = c.as_slice-sources.ensures.value in
    let places = subst (λ (s : List ReadFile). HasPlaces s reached n) (sym src) (has_places p entry call w reached r n refl) in
    let are = subst (λ (s : List ReadFile). AreLinkModules s reached n parts) src (c.in_ok-modules.ensures places) in
    let notes = c.in_ok-notes.notes.items in
    let are_notes = subst (λ (s : List ReadFile). AreNotes s reached n notes) src (c.in_ok-notes.ensures places) in
    let q = by_place p entry call w reached r n refl parts are in
    let setting = c.setting_of.result in
    let read = is_read p entry call w reached r n refl parts are setting notes are_notes (c.setting_of.ensures.require ∙ sym w.links.0) (w.iife ∙ sym c.setting_of.ensures.iife) in
    let handed = subst (λ (ms : List LinkModule). AreReadOf q ms notes setting) (sym c.deref.ensures.value) read in
    let found = c.in_ok-found.ensures q (subst (λ (ns : List DoubledNames). AreReadOf q c.deref.result.now ns setting) (sym c.deref-2.ensures.value) handed) in
    let told = subst (λ (ms : List LinkModule). IsJudgedAs q (length ms) c.in_ok-found.found) c.deref.ensures.value found in
    first_told p entry call w reached r n refl parts are c.in-Err.told c.in_ok-refusal_of-in-Err.field-0
    (subst (λ (f : Result Linking ModuleFault). IsJudgedAs q (length parts) f) c.in-Err.is told) c.in_ok-refusal_of-in-Err.ensures
