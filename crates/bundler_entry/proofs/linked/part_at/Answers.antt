-- What is found at the places is the module's.
use Rattle.std.proofs.Common.{◌≡◌, Some, length, refl, subst}
use Rattle.std.specs.Prelude.{slice_get}
use Rattle.std.proofs.lemmas.Option.{slice_get_read}
use Rattle.bundler_entry.proofs.linked.part_at.Goals as goal

pub returns-clause-part : goal.returns-clause-part
returns-clause-part c =
    let m = c.args.which in
    let places = c.deref.result.now in
    let place = c.in_ok-get.field-0.now in
    let source = c.in_ok-source.source.now in
    let leads = c.in_ok-leads.leads.now in
    let at = c.in_ok-get.ensures.lookup.3 in
    let there = c.in_ok-source.ensures.lookup.3 in
    let lead = c.in_ok-leads.ensures.lookup.3 in
    record {
      place = place;
      source = source;
      its_place = subst (λ l. slice_get l m ≡ Some place) c.deref.ensures.value (slice_get_read places (length places) m place refl at.0 (at.1 place));
      its_source = slice_get_read c.args.sources.now (length c.args.sources.now) place source refl there.0 (there.1 source);
      tables = refl;
      leads = subst (λ l. slice_get l m ≡ Some leads) c.deref-2.ensures.value (slice_get_read c.deref-2.result.now (length c.deref-2.result.now) m leads refl lead.0 (lead.1 leads));
    }
