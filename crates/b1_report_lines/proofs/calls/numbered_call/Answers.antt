use Rattle.std.proofs.Common.{◌≡◌, ap, ◌++◌, ◌∙◌, sym, List, ℕ}
use Rattle.b1_text_words.specs.Commands.{cookie_text}
use Rattle.b1_report_lines.specs.Reading.{strip}
use Rattle.b1_report_lines.proofs.ExactCalls.{behind_cookie, cookie_stops}
use Rattle.b1_report_lines.proofs.calls.numbered_call.Goals as goal

pub returns-in-Ok : goal.returns-in-Ok
returns-in-Ok c =
    let word : c.as_str.result.now ≡ cookie_text c.args.cookie = c.as_str.ensures.value ∙ c.in_ok-write_cookie.ensures.text ∙ ap (λ (t : List ℕ). t ++ cookie_text c.args.cookie) c.new-words.ensures.bytes in
    behind_cookie c.args.version c.args.cookie c.args.bytes.now c.in-Ok.rest.now c.read_call.result
    (ap (λ (w : List ℕ). strip w c.args.bytes.now) (sym word) ∙ sym c.in-Ok.ensures) c.read_call.ensures

pub returns : goal.returns
returns c =
    let word : c.as_str.result.now ≡ cookie_text c.args.cookie = c.as_str.ensures.value ∙ c.in_ok-write_cookie.ensures.text ∙ ap (λ (t : List ℕ). t ++ cookie_text c.args.cookie) c.new-words.ensures.bytes in
    cookie_stops c.args.version c.args.cookie c.args.bytes.now c.in-Err.stop
    (ap (λ (w : List ℕ). strip w c.args.bytes.now) (sym word) ∙ sym c.in-Err.ensures)
