use Rattle.gutsirava_c.proofs.Asked.{entries_found}
use Rattle.gutsirava_c.proofs.Refused.{none_listed, refused_too}
use Rattle.gutsirava_c.proofs.request.entries_in.Goals as goal

pub returns-in_ok-items_of-in-Some-clause-are : goal.returns-in_ok-items_of-in-Some-clause-are
returns-in_ok-items_of-in-Some-clause-are c =
    let items = c.in_ok-items_of-in-Some in
    entries_found c.entries_of.result c.args.value c.in-Some.value items.field-0.now c.in-Some.is items.ensures.are c.entries_of.ensures.are

pub returns-in_ok-items_of-in-Some-clause-refused : goal.returns-in_ok-items_of-in-Some-clause-refused
returns-in_ok-items_of-in-Some-clause-refused c =
    let items = c.in_ok-items_of-in-Some in
    refused_too c.entries_of.result (none_listed c.args.value c.in-Some.value items.field-0.now c.in-Some.is items.ensures.are) c.entries_of.ensures.refused
