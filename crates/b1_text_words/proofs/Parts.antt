-- Which command a line spells.
use Rattle.std.proofs.Common.{◌≡◌, arith, ℕ, ◌-◌, ◌^◌, ◌≤◌, Bool, ◌↔◌, ◌⊎◌, inl, inr, IsTrue, List, ◌∷◌, ◌++◌, refl, sym, ap, subst, ◌∙◌}
use Rattle.std.specs.Prelude.{codes, decimal}
use Rattle.b1_model.specs.declared.commands.Command.{Command}
use Rattle.b1_model.specs.declared.commands.Command.TheVariants as cmd
use Rattle.b1_model.specs.declared.naming.Limits.{Limits}
use Rattle.b1_model.specs.declared.version.Version.{Version}
use Rattle.b1_model.specs.declared.version.Version.TheVariants.{One, Two}
use Rattle.b1_text_words.specs.declared.items.Form.{Form}
use Rattle.b1_text_words.specs.declared.items.Form.TheVariants.{Script, Report}
use Rattle.b1_text_words.specs.declared.items.Item.TheVariants.{Handle, Offset}
use Rattle.b1_text_words.specs.Commands.{command_text_in, limits_text, IsCommand, AreLimits, most_numbers}
use Rattle.b1_text_words.specs.Items.{item_text, IsItem, AreItems}
use Rattle.b1_text_words.specs.Numbers.{list_text}
use Rattle.b1_text_words.specs.Verbs.{IsAloneIn, IsAwaitIn, IsNumberedIn, IsReleaseIn, IsSliceIn, IsResetIn, IsDestroyIn, IsSendIn}
use Rattle.b1_text_words.specs.Words.{Spells, Begins, Joined}
use Rattle.b1_text_words.proofs.Pairs.{begins_like, three}

-- two languages with the same words have the same beginnings
pub begins_both : (K L : List ℕ → Type 0) (w : List ℕ) (r : Bool) → ((x : List ℕ) → K x → L x) → ((x : List ℕ) → L x → K x) → (IsTrue r ↔ Begins K w) → IsTrue r ↔ Begins L w
begins_both K L w r to back says = (λ is. begins_like K L w to (says.0 is), λ b. says.1 (begins_like L K w back b))

abbrev pub Spelled : Form → (Command → Type 0) → List ℕ → Type 0
Spelled form IsOf word = Spells (command_text_in form) IsOf word

-- the words of a fixed kind
abbrev pub Is : List ℕ → List ℕ → Type 0
Is text word = word ≡ text

-- a word and one thing behind it

abbrev pub Release : Form → List ℕ → Type 0
Release form line = Joined 32 (Is (codes "release")) (λ w. Spells (item_text (Handle form)) (IsItem (Handle form)) w) line

release_line : (form : Form) (w : List ℕ) → Release form w → Spelled form (IsReleaseIn form) w
release_line form w line = record {
  value = cmd.Release line.is_rest.value;
  is_of = line.is_rest.is_of;
  same = line.whole ∙ ap (λ t. t ++ 32 ∷ line.rest) line.is_first ∙ ap (λ t. codes "release " ++ t) line.is_rest.same;
}

line_release : (form : Form) (w : List ℕ) → Spelled form (IsReleaseIn form) w → Release form w
line_release form w s = split s.value s.is_of s.same where
  split : (c : Command) → IsReleaseIn form c → w ≡ command_text_in form c → Release form w
  split (cmd.Release number) of same = record { first = codes "release"; rest = item_text (Handle form) number; is_first = refl; is_rest = record { value = number; is_of = of; same = refl }; whole = same }
  split command of same = absurd of

pub release_begins : (form : Form) (r : Bool) (w : List ℕ) → (IsTrue r ↔ Begins (Release form) w) → IsTrue r ↔ Begins (Spelled form (IsReleaseIn form)) w
release_begins form r w says = begins_both (Release form) (Spelled form (IsReleaseIn form)) w r (release_line form) (line_release form) says

abbrev pub Slice : Form → List ℕ → Type 0
Slice form line = Joined 32 (Is (codes "slice")) (λ w. Spells (item_text (Offset form)) (IsItem (Offset form)) w) line

slice_line : (form : Form) (w : List ℕ) → Slice form w → Spelled form (IsSliceIn form) w
slice_line form w line = record {
  value = cmd.SliceRelease line.is_rest.value;
  is_of = line.is_rest.is_of;
  same = line.whole ∙ ap (λ t. t ++ 32 ∷ line.rest) line.is_first ∙ ap (λ t. codes "slice " ++ t) line.is_rest.same;
}

line_slice : (form : Form) (w : List ℕ) → Spelled form (IsSliceIn form) w → Slice form w
line_slice form w s = split s.value s.is_of s.same where
  split : (c : Command) → IsSliceIn form c → w ≡ command_text_in form c → Slice form w
  split (cmd.SliceRelease offset) of same = record { first = codes "slice"; rest = item_text (Offset form) offset; is_first = refl; is_rest = record { value = offset; is_of = of; same = refl }; whole = same }
  split command of same = absurd of

pub slice_begins : (form : Form) (r : Bool) (w : List ℕ) → (IsTrue r ↔ Begins (Slice form) w) → IsTrue r ↔ Begins (Spelled form (IsSliceIn form)) w
slice_begins form r w says = begins_both (Slice form) (Spelled form (IsSliceIn form)) w r (slice_line form) (line_slice form) says

abbrev pub Destroy : Form → List ℕ → Type 0
Destroy form line = Joined 32 (Is (codes "destroy")) (λ w. Spells (list_text (item_text (Handle form))) (AreItems (Handle form) (most_numbers form)) w) line

destroy_line : (form : Form) (w : List ℕ) → Destroy form w → Spelled form (IsDestroyIn form) w
destroy_line form w line = record {
  value = cmd.Destroy line.is_rest.value;
  is_of = line.is_rest.is_of;
  same = line.whole ∙ ap (λ t. t ++ 32 ∷ line.rest) line.is_first ∙ ap (λ t. codes "destroy " ++ t) line.is_rest.same;
}

line_destroy : (form : Form) (w : List ℕ) → Spelled form (IsDestroyIn form) w → Destroy form w
line_destroy form w s = split s.value s.is_of s.same where
  split : (c : Command) → IsDestroyIn form c → w ≡ command_text_in form c → Destroy form w
  split (cmd.Destroy numbers) of same = record { first = codes "destroy"; rest = list_text (item_text (Handle form)) numbers; is_first = refl; is_rest = record { value = numbers; is_of = of; same = refl }; whole = same }
  split command of same = absurd of

pub destroy_begins : (form : Form) (most : ℕ) (r : Bool) (w : List ℕ) → most ≡ most_numbers form →
    (IsTrue r ↔ Begins (λ line. Joined 32 (Is (codes "destroy")) (λ x. Spells (list_text (item_text (Handle form))) (AreItems (Handle form) most) x) line) w) → IsTrue r ↔ Begins (Spelled form (IsDestroyIn form)) w
destroy_begins form most r w is says = begins_both (Destroy form) (Spelled form (IsDestroyIn form)) w r (destroy_line form) (line_destroy form)
    (subst (λ m. IsTrue r ↔ Begins (λ line. Joined 32 (Is (codes "destroy")) (λ x. Spells (list_text (item_text (Handle form))) (AreItems (Handle form) m) x) line) w) is says)

abbrev pub Small : List ℕ → Type 0
Small word = Spells decimal (λ n. n ≤ 2 ^ 32 - 1) word

-- a word and limits behind it
abbrev pub Limited : List ℕ → List ℕ → Type 0
Limited text line = Joined 32 (Is text) (λ a. Joined 32 Small (λ b. Joined 32 Small Small b) a) line

limited_text : (text w : List ℕ) (line : Limited text w) → (limits : Limits) × AreLimits limits × (w ≡ text ++ 32 ∷ limits_text limits)
limited_text text w line =
    let entries = line.is_rest.is_first in
    let bytes = line.is_rest.is_rest.is_first in
    let handles = line.is_rest.is_rest.is_rest in (
      record { entries = entries.value; bytes = bytes.value; handles = handles.value },
      record { entries = omega (arith, entries.is_of); bytes = omega (arith, bytes.is_of); handles = omega (arith, handles.is_of) },
      line.whole ∙ ap (λ t. t ++ 32 ∷ line.rest) line.is_first ∙ ap (λ t. text ++ 32 ∷ t) (line.is_rest.whole
          ∙ ap (λ t. t ++ 32 ∷ line.is_rest.rest) entries.same
          ∙ ap (λ t. decimal entries.value ++ 32 ∷ t) (line.is_rest.is_rest.whole ∙ ap (λ t. t ++ 32 ∷ line.is_rest.is_rest.rest) bytes.same ∙ ap (λ t. decimal bytes.value ++ 32 ∷ t) handles.same)
          ∙ sym (three 32 (decimal entries.value) (decimal bytes.value) (decimal handles.value))),
    )

text_limited : (text w : List ℕ) (limits : Limits) → AreLimits limits → w ≡ text ++ 32 ∷ limits_text limits → Limited text w
text_limited text w limits of same = record {
  first = text;
  rest = decimal limits.entries ++ 32 ∷ (decimal limits.bytes ++ 32 ∷ decimal limits.handles);
  is_first = refl;
  is_rest = record {
    first = decimal limits.entries;
    rest = decimal limits.bytes ++ 32 ∷ decimal limits.handles;
    is_first = record { value = limits.entries; is_of = omega (arith, of.entries); same = refl };
    is_rest = record { first = decimal limits.bytes; rest = decimal limits.handles; is_first = record { value = limits.bytes; is_of = omega (arith, of.bytes); same = refl }; is_rest = record { value = limits.handles; is_of = omega (arith, of.handles); same = refl }; whole = refl };
    whole = refl;
  };
  whole = same ∙ ap (λ t. text ++ 32 ∷ t) (three 32 (decimal limits.entries) (decimal limits.bytes) (decimal limits.handles));
}

abbrev pub Reset : List ℕ → Type 0
Reset line = Limited (codes "reset") line

abbrev pub Limit : List ℕ → Type 0
Limit line = Limited (codes "limit") line

reset_line : (form : Form) (version : Version) (w : List ℕ) → Reset w → Spelled form (IsResetIn form version) w
reset_line form version w line = let h = limited_text (codes "reset") w line in record { value = cmd.Reset h.0; is_of = h.1; same = h.2 }

limit_line : (form : Form) (w : List ℕ) → Limit w → Spelled form (IsResetIn form Two) w
limit_line form w line = let h = limited_text (codes "limit") w line in record { value = cmd.Limit h.0; is_of = h.1; same = h.2 }

line_reset : (form : Form) (w : List ℕ) → Spelled form (IsResetIn form One) w → Reset w
line_reset form w s = split s.value s.is_of s.same where
  split : (c : Command) → IsResetIn form One c → w ≡ command_text_in form c → Reset w
  split (cmd.Reset limits) of same = text_limited (codes "reset") w limits of same
  split (cmd.Limit limits) of same = absurd of
  split command of same = absurd of

line_either : (form : Form) (w : List ℕ) → Spelled form (IsResetIn form Two) w → Reset w ⊎ Limit w
line_either form w s = split s.value s.is_of s.same where
  split : (c : Command) → IsResetIn form Two c → w ≡ command_text_in form c → Reset w ⊎ Limit w
  split (cmd.Reset limits) of same = inl (text_limited (codes "reset") w limits of same)
  split (cmd.Limit limits) of same = inr (text_limited (codes "limit") w limits of same)
  split command of same = absurd of

pub reset_begins : (form : Form) (version : Version) (w : List ℕ) → Begins Reset w → Begins (Spelled form (IsResetIn form version)) w
reset_begins form version w b = begins_like Reset (Spelled form (IsResetIn form version)) w (reset_line form version) b

pub limit_begins : (form : Form) (w : List ℕ) → Begins Limit w → Begins (Spelled form (IsResetIn form Two)) w
limit_begins form w b = begins_like Limit (Spelled form (IsResetIn form Two)) w (limit_line form) b

pub begins_reset : (form : Form) (w : List ℕ) → Begins (Spelled form (IsResetIn form One)) w → Begins Reset w
begins_reset form w b = begins_like (Spelled form (IsResetIn form One)) Reset w (line_reset form) b

pub begins_either : (form : Form) (w : List ℕ) → Begins (Spelled form (IsResetIn form Two)) w → Begins Reset w ⊎ Begins Limit w
begins_either form w b = elim (line_either form (w ++ b.rest) b.whole) [ inl reset ↦ inl (record { rest = b.rest; whole = reset }) | inr limit ↦ inr (record { rest = b.rest; whole = limit }) ]

-- a line of one group or of another

module _ (form : Form) (P Q : Command → Type 0) where
  pub left_begins : (w : List ℕ) → Begins (Spelled form P) w → Begins (Spelled form (λ c. P c ⊎ Q c)) w
  left_begins w b = record { rest = b.rest; whole = record { value = b.whole.value; is_of = inl b.whole.is_of; same = b.whole.same } }

  pub right_begins : (w : List ℕ) → Begins (Spelled form Q) w → Begins (Spelled form (λ c. P c ⊎ Q c)) w
  right_begins w b = record { rest = b.rest; whole = record { value = b.whole.value; is_of = inr b.whole.is_of; same = b.whole.same } }

  pub either_begins : (w : List ℕ) → Begins (Spelled form (λ c. P c ⊎ Q c)) w → Begins (Spelled form P) w ⊎ Begins (Spelled form Q) w
  either_begins w b = elim b.whole.is_of [
    | inl p ↦ inl (record { rest = b.rest; whole = record { value = b.whole.value; is_of = p; same = b.whole.same } })
    | inr q ↦ inr (record { rest = b.rest; whole = record { value = b.whole.value; is_of = q; same = b.whole.same } })
  ]

-- commands of one word

pub recv_begins : (form : Form) (w : List ℕ) → Begins (Is (codes "recv")) w → Begins (Spelled form (IsAloneIn form)) w
recv_begins form w b = record { rest = b.rest; whole = record { value = cmd.Recv; is_of = tt; same = b.whole } }

pub query_begins : (form : Form) (w : List ℕ) → Begins (Is (codes "query")) w → Begins (Spelled form (IsAloneIn form)) w
query_begins form w b = record { rest = b.rest; whole = record { value = cmd.Query; is_of = tt; same = b.whole } }

pub disconnect_begins : (form : Form) (w : List ℕ) → Begins (Is (codes "disconnect")) w → Begins (Spelled form (IsAloneIn form)) w
disconnect_begins form w b = record { rest = b.rest; whole = record { value = cmd.Disconnect; is_of = tt; same = b.whole } }

is_await_alone : (form : Form) (c : Command) → IsAwaitIn form c → IsAloneIn form c
is_await_alone Script cmd.Await is = tt
is_await_alone Script command is = absurd is
is_await_alone Report command is = absurd is

pub await_alone : (form : Form) (w : List ℕ) → Begins (Spelled form (IsAwaitIn form)) w → Begins (Spelled form (IsAloneIn form)) w
await_alone form w b = record { rest = b.rest; whole = record { value = b.whole.value; is_of = is_await_alone form b.whole.value b.whole.is_of; same = b.whole.same } }

pub alone_begins : (form : Form) (w : List ℕ) → Begins (Spelled form (IsAloneIn form)) w → Begins (Is (codes "recv")) w ⊎ (Begins (Is (codes "query")) w ⊎ (Begins (Is (codes "disconnect")) w ⊎ Begins (Spelled form (IsAwaitIn form)) w))
alone_begins form w b = split b.whole.value b.whole.is_of b.whole.same where
  split : (c : Command) → IsAloneIn form c → w ++ b.rest ≡ command_text_in form c → Begins (Is (codes "recv")) w ⊎ (Begins (Is (codes "query")) w ⊎ (Begins (Is (codes "disconnect")) w ⊎ Begins (Spelled form (IsAwaitIn form)) w))
  split cmd.Recv is same = inl (record { rest = b.rest; whole = same })
  split cmd.Query is same = inr (inl (record { rest = b.rest; whole = same }))
  split cmd.Disconnect is same = inr (inr (inl (record { rest = b.rest; whole = same })))
  split command is same = inr (inr (inr (record { rest = b.rest; whole = record { value = command; is_of = is; same = same } })))

pub await_begins : (w : List ℕ) → Begins (Is (codes "await")) w → Begins (Spelled Script (IsAwaitIn Script)) w
await_begins w b = record { rest = b.rest; whole = record { value = cmd.Await; is_of = tt; same = b.whole } }

pub begins_await : (w : List ℕ) → Begins (Spelled Script (IsAwaitIn Script)) w → Begins (Is (codes "await")) w
begins_await w b = split b.whole.value b.whole.is_of b.whole.same where
  split : (c : Command) → IsAwaitIn Script c → w ++ b.rest ≡ command_text_in Script c → Begins (Is (codes "await")) w
  split cmd.Await is same = record { rest = b.rest; whole = same }
  split command is same = absurd is

-- every command is of one group

pub is_grouped : (form : Form) (version : Version) (c : Command) → IsCommand form version c → IsAloneIn form c ⊎ (IsNumberedIn form version c ⊎ IsSendIn form c)
is_grouped form version cmd.Disconnect is = inl tt
is_grouped form version cmd.Query is = inl tt
is_grouped form version cmd.Recv is = inl tt
is_grouped Script version cmd.Await is = inl tt
is_grouped Report version cmd.Await is = absurd is
is_grouped form version (cmd.Reset limits) is = inr (inl (inr (inr (inl is))))
is_grouped form version (cmd.Limit limits) is = inr (inl (inr (inr (inl is))))
is_grouped form version (cmd.Release number) is = inr (inl (inl is))
is_grouped form version (cmd.Destroy numbers) is = inr (inl (inr (inr (inr is))))
is_grouped form version (cmd.SliceRelease offset) is = inr (inl (inr (inl is)))
is_grouped form version (cmd.Send send) is = inr (inr is)

release_is : (form : Form) (version : Version) (c : Command) → IsReleaseIn form c → IsCommand form version c
release_is form version (cmd.Release number) is = is
release_is form version command is = absurd is

slice_is : (form : Form) (version : Version) (c : Command) → IsSliceIn form c → IsCommand form version c
slice_is form version (cmd.SliceRelease offset) is = is
slice_is form version command is = absurd is

reset_is : (form : Form) (version : Version) (c : Command) → IsResetIn form version c → IsCommand form version c
reset_is form version (cmd.Reset limits) is = is
reset_is form version (cmd.Limit limits) is = is
reset_is form version command is = absurd is

destroy_is : (form : Form) (version : Version) (c : Command) → IsDestroyIn form c → IsCommand form version c
destroy_is form version (cmd.Destroy numbers) is = is
destroy_is form version command is = absurd is

pub send_is : (form : Form) (version : Version) (c : Command) → IsSendIn form c → IsCommand form version c
send_is form version (cmd.Send send) is = is
send_is form version command is = absurd is

await_is : (form : Form) (version : Version) (c : Command) → IsAwaitIn form c → IsCommand form version c
await_is Script version cmd.Await is = tt
await_is Script version command is = absurd is
await_is Report version command is = absurd is

pub alone_is : (form : Form) (version : Version) (c : Command) → IsAloneIn form c → IsCommand form version c
alone_is form version cmd.Recv is = tt
alone_is form version cmd.Query is = tt
alone_is form version cmd.Disconnect is = tt
alone_is form version command is = await_is form version command is

pub numbered_is : (form : Form) (version : Version) (c : Command) → IsNumberedIn form version c → IsCommand form version c
numbered_is form version c is = elim is [ inl a ↦ release_is form version c a | inr more ↦ elim more [ inl b ↦ slice_is form version c b | inr most ↦ elim most [ inl d ↦ reset_is form version c d | inr e ↦ destroy_is form version c e ] ] ]

pub some_command : (form : Form) (version : Version) (IsOf : Command → Type 0) → ((c : Command) → IsOf c → IsCommand form version c) → (w : List ℕ) → Begins (Spelled form IsOf) w → Begins (Spelled form (IsCommand form version)) w
some_command form version IsOf to w b = record { rest = b.rest; whole = record { value = b.whole.value; is_of = to b.whole.value b.whole.is_of; same = b.whole.same } }

pub command_begins : (form : Form) (version : Version) (w : List ℕ) → Begins (Spelled form (IsCommand form version)) w → Begins (Spelled form (IsAloneIn form)) w ⊎ (Begins (Spelled form (IsNumberedIn form version)) w ⊎ Begins (Spelled form (IsSendIn form)) w)
command_begins form version w b = elim (is_grouped form version b.whole.value b.whole.is_of) [
  | inl a ↦ inl (record { rest = b.rest; whole = record { value = b.whole.value; is_of = a; same = b.whole.same } })
  | inr more ↦ elim more [
    | inl n ↦ inr (inl (record { rest = b.rest; whole = record { value = b.whole.value; is_of = n; same = b.whole.same } }))
    | inr s ↦ inr (inr (record { rest = b.rest; whole = record { value = b.whole.value; is_of = s; same = b.whole.same } }))
  ]
]
