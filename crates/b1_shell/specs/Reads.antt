-- What is known of what is said of an input, once it was read.
use Rattle.std.specs.Prelude.{◌≡◌, ◌≢◌, ◌≤◌, ℕ, List, [], Option, Some, length, IfSome}
use Rattle.b1_input.specs.declared.input.Front.{Front}
use Rattle.b1_input.specs.Held.{IsFront}
use Rattle.b1_model.specs.declared.limits.TheConstants.{MOST_CHECKED}
use Rattle.b1_shell.specs.declared.Said.{Said}
use Rattle.b1_shell.specs.declared.Said.TheVariants.{Bad}
use Rattle.b1_shell.specs.declared.forms.Form.{Form}
use Rattle.b1_shell.specs.Answers.{IsAccepted}
use Rattle.b1_shell.specs.Forms.{most_input}

-- where it is told what was held: this was said of it; an accepted input has no fault; the source was read to its end, unless
-- it held too much, of which a fault is said
pub record IsRead (Says : List ℕ → Said → List ℕ → Type 0) (form : Form) (held left : Option (List ℕ)) (said : Said) (text : List ℕ) : Type 0 where
  pub says : IfSome held (λ input. Says input said text)
  pub accepted : IfSome held (λ input. IsAccepted form input → said ≢ Bad)
  pub end : IfSome held (λ input. length input ≤ most_input form → left ≡ Some [])
  pub unless_bad : said ≢ Bad → IfSome held (λ _. left ≡ Some [])

-- some input that isn't too long to be checked has this script at its front, and these bytes behind it
pub record IsChecked (front : Front) : Type 0 where
  pub input : List ℕ
  pub few : length input ≤ MOST_CHECKED
  pub is : IsFront input front.script front.end front.behind.items
