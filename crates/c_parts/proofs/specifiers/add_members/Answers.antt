use Rattle.std.proofs.Common.{◌∙◌, ap}
use Rattle.c_tree.specs.Shape.{members_of}
use Rattle.c_parts.proofs.Ends.{members_end}
use Rattle.c_parts.proofs.specifiers.add_members.Goals as goal

pub returns : goal.returns
returns c =
    let e = ap members_of c.in_ok-extended.ensures ∙ members_end c.args.members.trees.items c.made_member-member.result _ _ _ c.made_member-member.ensures in
    rw (e, c.in_ok-all_specifiers.ensures, c.start_place-at.ensures, c.max.ensures, c.max-inner.ensures)
