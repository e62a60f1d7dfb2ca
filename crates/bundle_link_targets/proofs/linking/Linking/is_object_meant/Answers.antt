use Rattle.bundle_link_targets.proofs.linking.Linking.is_object_meant.Goals as goal

pub returns : goal.returns
returns c = λ p w are. c.has_object.ensures p (w.meant are)
