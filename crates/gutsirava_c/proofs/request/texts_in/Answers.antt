use Rattle.gutsirava_c.proofs.Refused.{files_found, none_found}
use Rattle.gutsirava_c.proofs.request.texts_in.Goals as goal

pub returns-in_ok-members_of-in-Some-clause-are : goal.returns-in_ok-members_of-in-Some-clause-are
returns-in_ok-members_of-in-Some-clause-are c =
    let members = c.in_ok-members_of-in-Some in
    files_found c.texts_of.result c.args.value c.in-Some.value members.field-0.now c.in-Some.is members.ensures.are c.texts_of.ensures.are

pub returns-in_ok-members_of-in-Some-clause-refused : goal.returns-in_ok-members_of-in-Some-clause-refused
returns-in_ok-members_of-in-Some-clause-refused c =
    let members = c.in_ok-members_of-in-Some in
    none_found c.texts_of.result c.args.value c.in-Some.value members.field-0.now c.in-Some.is members.ensures.are c.texts_of.ensures.refused
