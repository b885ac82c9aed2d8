use Rattle.std.proofs.Common.{refl}
use Rattle.b1_script.specs.Reading.{lists_at}
use Rattle.b1_script.proofs.Entries.{cookies_back, commands_back}
use Rattle.b1_script.proofs.lists.read_lists.Goals as goal

pub returns-in_ok-cookies-in-Two : goal.returns-in_ok-cookies-in-Two
unfolding lists_at
returns-in_ok-cookies-in-Two c =
    let cookies = c.in_ok-cookies-in-Two.cookies in
    let commands = c.in_ok-cookies-in-Two.commands in
    let same = c.in_ok-cookies-in-Two.ensures.same in
    rw (c.in-Two.is, c.in_ok-cookies-in-Two.ensures.gives) (rw (cookies_back cookies commands same, commands_back cookies commands same) refl)
