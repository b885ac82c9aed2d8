-- How a SEND is written, word by word.
use Rattle.std.proofs.Common.{◌≡◌, arith, ℕ, ◌≤◌, Bool, true, false, ◌↔◌, inl, inr, IsTrue, List, ◌∷◌, ◌++◌, get_or, Option, Some, None, refl, sym, ap, subst, ◌∙◌, append_assoc}
use Rattle.std.specs.Prelude.{codes, decimal}
use Rattle.std.proofs.lemmas.Bool.{cases_eq}
use Rattle.std.proofs.lemmas.Fmt.{decimal_digit}
use Rattle.b1_model.specs.declared.commands.Command.{Command}
use Rattle.b1_model.specs.declared.commands.Command.TheVariants as cmd
use Rattle.b1_model.specs.declared.version.Version.TheVariants.{Two}
use Rattle.b1_text_words.specs.declared.items.Form.{Form}
use Rattle.b1_text_words.specs.declared.items.Item.TheVariants.{Handle}
use Rattle.b1_text_words.specs.Commands.{command_text_in, flag_of, IsCommand, IsSend, most_numbers, most_bytes}
use Rattle.b1_text_words.specs.Items.{item_text, AreItems, AreBytes}
use Rattle.b1_text_words.specs.Numbers.{list_text, hex_text}
use Rattle.b1_text_words.specs.Verbs.{IsNotBehind, IsNoFlag, IsNoSend, AreSendWords, IsSendIn}
use Rattle.b1_text_words.specs.Words.{Spells, Reads, Begins, IsFree, Joined}
use Rattle.b1_text_words.proofs.Languages.{joined_first, not_free, read_found, read_none}
use Rattle.b1_text_words.proofs.Lines.{lettered_list, free_lettered}
use Rattle.std.proofs.lemmas.List.{append_cancel_left}
use Rattle.b1_model.specs.declared.commands.SendCmd.{SendCmd}
use Rattle.b1_text_words.proofs.Parts.{Spelled, Is, begins_both}

-- a SEND

abbrev pub Handles : Form → ℕ → List ℕ → Type 0
Handles form most word = Spells (list_text (item_text (Handle form))) (AreItems (Handle form) most) word

abbrev pub Flag : List ℕ → Type 0
Flag word = Spells decimal (λ n. n ≤ 1) word

abbrev pub Payload : ℕ → List ℕ → Type 0
Payload most word = Spells hex_text (AreBytes most) word

abbrev pub Send : Form → ℕ → ℕ → List ℕ → Type 0
Send form numbers bytes line =
    Joined 32 (Is (codes "send")) (λ a. Joined 32 Flag (λ b. Joined 32 (Is (codes "to")) (λ c. Joined 32 (Handles form numbers) (λ d. Joined 32 (Is (codes "with"))
    (λ e. Joined 32 (Handles form numbers) (λ f. Joined 32 (Is (codes "data")) (Payload bytes) f) e) d) c) b) a) line

flag_word : (n : ℕ) → n ≤ 1 → (go_on : Bool) × (decimal n ++ 32 ∷ codes "to " ≡ flag_of go_on)
flag_word n small = elim (cases_eq n 0) [
  | inl least ↦ (false, ap (λ m. decimal m ++ 32 ∷ codes "to ") least ∙ ap (λ d. d ++ 32 ∷ codes "to ") (decimal_digit 0 (omega arith)))
  | inr other ↦ (true, ap (λ m. decimal m ++ 32 ∷ codes "to ") (let one : n ≡ 1 = omega (arith, small, other) in one) ∙ ap (λ d. d ++ 32 ∷ codes "to ") (decimal_digit 1 (omega arith)))
]

word_flag : (go_on : Bool) → (n : ℕ) × (n ≤ 1) × (decimal n ++ 32 ∷ codes "to " ≡ flag_of go_on)
word_flag true = (1, omega arith, ap (λ d. d ++ 32 ∷ codes "to ") (decimal_digit 1 (omega arith)))
word_flag false = (0, omega arith, ap (λ d. d ++ 32 ∷ codes "to ") (decimal_digit 0 (omega arith)))

-- the parts of a SEND, from left to right
pub send_shape : (flag to with payload : List ℕ) →
    codes "send " ++ flag ++ to ++ codes " with " ++ with ++ codes " data " ++ payload ≡ codes "send " ++ (flag ++ (to ++ 32 ∷ (codes "with " ++ (with ++ 32 ∷ (codes "data " ++ payload)))))
send_shape flag to with payload =
    append_assoc (codes "send " ++ flag ++ to ++ codes " with " ++ with) (codes " data ") payload
    ∙ append_assoc (codes "send " ++ flag ++ to ++ codes " with ") with (codes " data " ++ payload)
    ∙ append_assoc (codes "send " ++ flag ++ to) (codes " with ") (with ++ (codes " data " ++ payload))
    ∙ append_assoc (codes "send " ++ flag) to (codes " with " ++ (with ++ (codes " data " ++ payload)))
    ∙ append_assoc (codes "send ") flag (to ++ (codes " with " ++ (with ++ (codes " data " ++ payload))))

-- the words of a line of a SEND
line_shape : (flag to with payload : List ℕ) →
    codes "send" ++ 32 ∷ (flag ++ 32 ∷ (codes "to" ++ 32 ∷ (to ++ 32 ∷ (codes "with" ++ 32 ∷ (with ++ 32 ∷ (codes "data" ++ 32 ∷ payload))))))
    ≡ codes "send " ++ ((flag ++ 32 ∷ codes "to ") ++ (to ++ 32 ∷ (codes "with " ++ (with ++ 32 ∷ (codes "data " ++ payload)))))
line_shape flag to with payload = ap (λ t. codes "send " ++ t) (sym (append_assoc flag (32 ∷ codes "to ") (to ++ 32 ∷ (codes "with " ++ (with ++ 32 ∷ (codes "data " ++ payload))))))

send_line : (form : Form) (w : List ℕ) → Send form (most_numbers form) (most_bytes form) w → Spelled form (IsSendIn form) w
send_line form w line =
    let flag = line.is_rest.is_first in
    let to = line.is_rest.is_rest.is_rest.is_first in
    let with = line.is_rest.is_rest.is_rest.is_rest.is_rest.is_first in
    let payload = line.is_rest.is_rest.is_rest.is_rest.is_rest.is_rest.is_rest in
    let go_on = flag_word flag.value flag.is_of in
    let l1 = line.is_rest in
    let l2 = l1.is_rest in
    let l3 = l2.is_rest in
    let l4 = l3.is_rest in
    let l5 = l4.is_rest in
    let l6 = l5.is_rest in
    let text = list_text (item_text (Handle form)) in
    record {
      value = cmd.Send (record { go_on = go_on.0; to = to.value; with = with.value; payload = payload.value });
      is_of = record { to = to.is_of; with = with.is_of; payload = payload.is_of };
      same = line.whole ∙ ap (λ t. t ++ 32 ∷ line.rest) line.is_first ∙ ap (λ t. codes "send " ++ t)
          (l1.whole ∙ ap (λ t. t ++ 32 ∷ l1.rest) flag.same ∙ ap (λ t. decimal flag.value ++ 32 ∷ t)
          (l2.whole ∙ ap (λ t. t ++ 32 ∷ l2.rest) l2.is_first ∙ ap (λ t. codes "to " ++ t)
          (l3.whole ∙ ap (λ t. t ++ 32 ∷ l3.rest) to.same ∙ ap (λ t. text to.value ++ 32 ∷ t)
          (l4.whole ∙ ap (λ t. t ++ 32 ∷ l4.rest) l4.is_first ∙ ap (λ t. codes "with " ++ t)
          (l5.whole ∙ ap (λ t. t ++ 32 ∷ l5.rest) with.same ∙ ap (λ t. text with.value ++ 32 ∷ t)
          (l6.whole ∙ ap (λ t. t ++ 32 ∷ l6.rest) l6.is_first ∙ ap (λ t. codes "data " ++ t) payload.same))))))
          ∙ line_shape (decimal flag.value) (text to.value) (text with.value) (hex_text payload.value)
          ∙ ap (λ f. codes "send " ++ (f ++ (text to.value ++ 32 ∷ (codes "with " ++ (text with.value ++ 32 ∷ (codes "data " ++ hex_text payload.value)))))) go_on.1
          ∙ sym (send_shape (flag_of go_on.0) (text to.value) (text with.value) (hex_text payload.value));
    }

line_send : (form : Form) (w : List ℕ) → Spelled form (IsSendIn form) w → Send form (most_numbers form) (most_bytes form) w
line_send form w s = split s.value s.is_of s.same where
  split : (c : Command) → IsSendIn form c → w ≡ command_text_in form c → Send form (most_numbers form) (most_bytes form) w
  split (cmd.Send send) of same =
      let n = word_flag send.go_on in
      let text = list_text (item_text (Handle form)) in
      let after_data = hex_text send.payload in
      let after_with = text send.with ++ 32 ∷ (codes "data " ++ after_data) in
      let after_to = text send.to ++ 32 ∷ (codes "with " ++ after_with) in
      record {
        first = codes "send";
        rest = decimal n.0 ++ 32 ∷ (codes "to " ++ after_to);
        is_first = refl;
        whole = same ∙ send_shape (flag_of send.go_on) (text send.to) (text send.with) after_data ∙ ap (λ f. codes "send " ++ (f ++ after_to)) (sym n.2) ∙ sym (line_shape (decimal n.0) (text send.to) (text send.with) after_data);
        is_rest = record {
          first = decimal n.0;
          rest = codes "to " ++ after_to;
          is_first = record { value = n.0; is_of = n.1; same = refl };
          whole = refl;
          is_rest = record {
            first = codes "to";
            rest = after_to;
            is_first = refl;
            whole = refl;
            is_rest = record {
              first = text send.to;
              rest = codes "with " ++ after_with;
              is_first = record { value = send.to; is_of = of.to; same = refl };
              whole = refl;
              is_rest = record {
                first = codes "with";
                rest = after_with;
                is_first = refl;
                whole = refl;
                is_rest = record {
                  first = text send.with;
                  rest = codes "data " ++ after_data;
                  is_first = record { value = send.with; is_of = of.with; same = refl };
                  whole = refl;
                  is_rest = record { first = codes "data"; rest = after_data; is_first = refl; is_rest = record { value = send.payload; is_of = of.payload; same = refl }; whole = refl };
                };
              };
            };
          };
        };
      }
  split command of same = absurd of

pub send_begins : (form : Form) (numbers bytes : ℕ) (r : Bool) (w : List ℕ) → numbers ≡ most_numbers form → bytes ≡ most_bytes form → (IsTrue r ↔ Begins (Send form numbers bytes) w) → IsTrue r ↔ Begins (Spelled form (IsSendIn form)) w
send_begins form numbers bytes r w is_numbers is_bytes says = begins_both (Send form (most_numbers form) (most_bytes form)) (Spelled form (IsSendIn form)) w r (send_line form) (line_send form)
    (subst (λ b. IsTrue r ↔ Begins (Send form (most_numbers form) b) w) is_bytes (subst (λ n. IsTrue r ↔ Begins (Send form n bytes) w) is_numbers says))

-- what is read of a SEND

pub words_of : (line a r to with payload : List ℕ) → line ≡ a ++ 32 ∷ r → IsFree 32 a → AreSendWords to with payload line → (a ≡ to) × (r ≡ codes "with " ++ (with ++ 32 ∷ (codes "data " ++ payload)))
words_of line a r to with payload cut plain are = joined_first 32 a to r (codes "with " ++ (with ++ 32 ∷ (codes "data " ++ payload))) plain are.to_free (sym cut ∙ are.whole)

pub no_to : (line : List ℕ) → IsFree 32 line → IsNoSend line
no_to line plain to with payload are = not_free 32 to (codes "with " ++ (with ++ 32 ∷ (codes "data " ++ payload))) (subst (IsFree 32) are.whole plain)

pub no_with : (line a r : List ℕ) → line ≡ a ++ 32 ∷ r → IsFree 32 a → IsNotBehind (codes "with ") r → IsNoSend line
no_with line a r cut plain never to with payload are = never (with ++ 32 ∷ (codes "data " ++ payload)) (words_of line a r to with payload cut plain are).1

pub no_space : (line a r q : List ℕ) → line ≡ a ++ 32 ∷ r → IsFree 32 a → r ≡ codes "with " ++ q → IsFree 32 q → IsNoSend line
no_space line a r q cut plain behind free to with payload are =
    let h = (words_of line a r to with payload cut plain are).1 in
    let same : q ≡ with ++ 32 ∷ (codes "data " ++ payload) = append_cancel_left (codes "with ") q (with ++ 32 ∷ (codes "data " ++ payload)) (sym behind ∙ h) in
    not_free 32 with (codes "data " ++ payload) (subst (IsFree 32) same free)

pub more_words : (line a r q w p to with payload : List ℕ) → line ≡ a ++ 32 ∷ r → IsFree 32 a → r ≡ codes "with " ++ q → q ≡ w ++ 32 ∷ p → IsFree 32 w → AreSendWords to with payload line → (a ≡ to) × (w ≡ with) × (p ≡ codes "data " ++ payload)
more_words line a r q w p to with payload cut plain behind parts free are =
    let h = words_of line a r to with payload cut plain are in
    let same : q ≡ with ++ 32 ∷ (codes "data " ++ payload) = append_cancel_left (codes "with ") q (with ++ 32 ∷ (codes "data " ++ payload)) (sym behind ∙ h.1) in
    let k = joined_first 32 w with p (codes "data " ++ payload) free are.with_free (sym parts ∙ same) in
    (h.0, k.0, k.1)

pub no_data : (line a r q w p : List ℕ) → line ≡ a ++ 32 ∷ r → IsFree 32 a → r ≡ codes "with " ++ q → q ≡ w ++ 32 ∷ p → IsFree 32 w → IsNotBehind (codes "data ") p → IsNoSend line
no_data line a r q w p cut plain behind parts free never to with payload are = never payload (more_words line a r q w p to with payload cut plain behind parts free are).2

-- one line has its words in one way
pub same_words : (line a w p to with payload : List ℕ) → AreSendWords a w p line → AreSendWords to with payload line → (a ≡ to) × (w ≡ with) × (p ≡ payload)
same_words line a w p to with payload one two =
    let h = more_words line a (codes "with " ++ (w ++ 32 ∷ (codes "data " ++ p))) (w ++ 32 ∷ (codes "data " ++ p)) w (codes "data " ++ p) to with payload one.whole one.to_free refl refl one.with_free two in
    (h.0, h.1, append_cancel_left (codes "data ") p payload h.2)

same_flag : (a b : Bool) (r s : List ℕ) → flag_of a ++ r ≡ flag_of b ++ s → (a ≡ b) × (r ≡ s)
same_flag true true r s e = (refl, append_cancel_left (codes "1 to ") r s e)
same_flag false false r s e = (refl, append_cancel_left (codes "0 to ") r s e)
same_flag true false r s e = absurd (let h = ap (λ w. get_or w 0 0) e in omega (arith, h))
same_flag false true r s e = absurd (let h = ap (λ w. get_or w 0 0) e in omega (arith, h))

-- the SEND that a line spells
pub record SendOf (form : Form) (rest : List ℕ) (c : Command) : Type 0 where
  pub send : SendCmd
  pub same : c ≡ cmd.Send send
  pub is : IsSend form send
  pub tail : List ℕ
  pub flag : rest ≡ flag_of send.go_on ++ tail
  pub words : AreSendWords (list_text (item_text (Handle form)) send.to) (list_text (item_text (Handle form)) send.with) (hex_text send.payload) tail

pub send_of : (form : Form) (rest : List ℕ) (c : Command) → IsCommand form Two c → codes "send " ++ rest ≡ command_text_in form c → SendOf form rest c
send_of form rest (cmd.Send send) is same =
    let text = list_text (item_text (Handle form)) in
    let free = λ (xs : List ℕ) (all : AreItems (Handle form) (most_numbers form) xs). free_lettered 32 (text xs) refl (lettered_list (Handle form) tt xs all.items) in
    let whole : codes "send " ++ rest ≡ codes "send " ++ (flag_of send.go_on ++ (text send.to ++ 32 ∷ (codes "with " ++ (text send.with ++ 32 ∷ (codes "data " ++ hex_text send.payload))))) =
    same ∙ send_shape (flag_of send.go_on) (text send.to) (text send.with) (hex_text send.payload) in
    record {
      send = send;
      same = refl;
      is = is;
      tail = text send.to ++ 32 ∷ (codes "with " ++ (text send.with ++ 32 ∷ (codes "data " ++ hex_text send.payload)));
      flag = append_cancel_left (codes "send ") rest (flag_of send.go_on ++ (text send.to ++ 32 ∷ (codes "with " ++ (text send.with ++ 32 ∷ (codes "data " ++ hex_text send.payload))))) whole;
      words = record { to_free = free send.to is.to; with_free = free send.with is.with; whole = refl };
    }
send_of form rest cmd.Disconnect is same = absurd (let h = ap (λ w. get_or w 0 0) same in omega (arith, h))
send_of form rest cmd.Query is same = absurd (let h = ap (λ w. get_or w 0 0) same in omega (arith, h))
send_of form rest (cmd.Reset limits) is same = absurd (let h = ap (λ w. get_or w 0 0) same in omega (arith, h))
send_of form rest (cmd.Limit limits) is same = absurd (let h = ap (λ w. get_or w 0 0) same in omega (arith, h))
send_of form rest (cmd.Release number) is same = absurd (let h = ap (λ w. get_or w 0 0) same in omega (arith, h))
send_of form rest (cmd.Destroy numbers) is same = absurd (let h = ap (λ w. get_or w 0 0) same in omega (arith, h))
send_of form rest (cmd.SliceRelease offset) is same = absurd (let h = ap (λ w. get_or w 1 0) same in omega (arith, h))
send_of form rest cmd.Recv is same = absurd (let h = ap (λ w. get_or w 0 0) same in omega (arith, h))
send_of form rest cmd.Await is same = absurd (let h = ap (λ w. get_or w 0 0) same in omega (arith, h))

abbrev pub ReadsSend : Form → List ℕ → Option Command → Type 0
ReadsSend form rest r = Reads (command_text_in form) (IsCommand form Two) (codes "send " ++ rest) r

pub no_flag : (form : Form) (rest : List ℕ) → IsNoFlag rest → ReadsSend form rest None
no_flag form rest never = record { found = tt; whole = λ c is same. let s = send_of form rest c is same in absurd (never s.send.go_on s.tail s.flag) }

-- behind the flag
module _ (form : Form) (rest : List ℕ) (go_on : Bool) (behind : List ℕ) (flag : rest ≡ flag_of go_on ++ behind) where
  tails : (c : Command) (s : SendOf form rest c) → (go_on ≡ s.send.go_on) × (behind ≡ s.tail)
  tails c s = same_flag go_on s.send.go_on behind s.tail (sym flag ∙ s.flag)

  pub no_words : IsNoSend behind → ReadsSend form rest None
  no_words never = record {
    found = tt;
    whole = λ c is same.
        let s = send_of form rest c is same in
        absurd (never (list_text (item_text (Handle form)) s.send.to) (list_text (item_text (Handle form)) s.send.with) (hex_text s.send.payload)
        (subst (AreSendWords (list_text (item_text (Handle form)) s.send.to) (list_text (item_text (Handle form)) s.send.with) (hex_text s.send.payload)) (sym (tails c s).1) s.words));
  }

  module _ (to with payload : List ℕ) (words : AreSendWords to with payload behind) where
    parts : (c : Command) (s : SendOf form rest c) → (to ≡ list_text (item_text (Handle form)) s.send.to) × (with ≡ list_text (item_text (Handle form)) s.send.with) × (payload ≡ hex_text s.send.payload)
    parts c s = same_words behind to with payload (list_text (item_text (Handle form)) s.send.to) (list_text (item_text (Handle form)) s.send.with) (hex_text s.send.payload) words
        (subst (AreSendWords (list_text (item_text (Handle form)) s.send.to) (list_text (item_text (Handle form)) s.send.with) (hex_text s.send.payload)) (sym (tails c s).1) s.words)

    pub no_destinations : (r : Option (List ℕ)) → r ≡ None → Reads (list_text (item_text (Handle form))) (AreItems (Handle form) (most_numbers form)) to r → ReadsSend form rest None
    no_destinations r is reads = record {
      found = tt;
      whole = λ c of same.
          let s = send_of form rest c of same in
          absurd (read_none (list_text (item_text (Handle form))) (AreItems (Handle form) (most_numbers form)) to r reads is (record { value = s.send.to; is_of = s.is.to; same = (parts c s).0 }));
    }

    pub no_handles : (r : Option (List ℕ)) → r ≡ None → Reads (list_text (item_text (Handle form))) (AreItems (Handle form) (most_numbers form)) with r → ReadsSend form rest None
    no_handles r is reads = record {
      found = tt;
      whole = λ c of same.
          let s = send_of form rest c of same in
          absurd (read_none (list_text (item_text (Handle form))) (AreItems (Handle form) (most_numbers form)) with r reads is (record { value = s.send.with; is_of = s.is.with; same = (parts c s).1 }));
    }

    pub no_payload : (r : Option (List ℕ)) → r ≡ None → Reads hex_text (AreBytes (most_bytes form)) payload r → ReadsSend form rest None
    no_payload r is reads = record {
      found = tt;
      whole = λ c of same.
          let s = send_of form rest c of same in
          absurd (read_none hex_text (AreBytes (most_bytes form)) payload r reads is (record { value = s.send.payload; is_of = s.is.payload; same = (parts c s).2 }));
    }

    pub send_read : (a b d : List ℕ) (p q r : Option (List ℕ)) →
        p ≡ Some a → Reads (list_text (item_text (Handle form))) (AreItems (Handle form) (most_numbers form)) to p →
        q ≡ Some b → Reads (list_text (item_text (Handle form))) (AreItems (Handle form) (most_numbers form)) with q →
        r ≡ Some d → Reads hex_text (AreBytes (most_bytes form)) payload r →
        ReadsSend form rest (Some (cmd.Send (record { go_on = go_on; to = a; with = b; payload = d })))
    send_read a b d p q r is_a reads_a is_b reads_b is_d reads_d =
        let text = list_text (item_text (Handle form)) in
        let x = read_found (list_text (item_text (Handle form))) (AreItems (Handle form) (most_numbers form)) to p a reads_a is_a in
        let y = read_found (list_text (item_text (Handle form))) (AreItems (Handle form) (most_numbers form)) with q b reads_b is_b in
        let z = read_found hex_text (AreBytes (most_bytes form)) payload r d reads_d is_d in
        record {
          found = (
            record { to = x.0; with = y.0; payload = z.0 },
            ap (λ t. codes "send " ++ t) (flag ∙ ap (λ t. flag_of go_on ++ t) (words.whole
                ∙ ap (λ t. t ++ 32 ∷ (codes "with " ++ (with ++ 32 ∷ (codes "data " ++ payload)))) x.1
                ∙ ap (λ t. text a ++ 32 ∷ (codes "with " ++ (t ++ 32 ∷ (codes "data " ++ payload)))) y.1
                ∙ ap (λ t. text a ++ 32 ∷ (codes "with " ++ (text b ++ 32 ∷ (codes "data " ++ t)))) z.1))
                ∙ sym (send_shape (flag_of go_on) (text a) (text b) (hex_text d)),
          );
          whole = λ c of same.
              let s = send_of form rest c of same in
              let h = parts c s in
              let pa : p ≡ Some s.send.to = reads_a.whole s.send.to s.is.to h.0 in
              let qb : q ≡ Some s.send.with = reads_b.whole s.send.with s.is.with h.1 in
              let rd : r ≡ Some s.send.payload = reads_d.whole s.send.payload s.is.payload h.2 in
              let ea : a ≡ s.send.to = cc in
              let eb : b ≡ s.send.with = cc in
              let ed : d ≡ s.send.payload = cc in
              ap Some (ap (λ g. cmd.Send (record { go_on = g; to = a; with = b; payload = d })) (tails c s).0
              ∙ ap (λ t. cmd.Send (record { go_on = s.send.go_on; to = t; with = b; payload = d })) ea
              ∙ ap (λ t. cmd.Send (record { go_on = s.send.go_on; to = s.send.to; with = t; payload = d })) eb
              ∙ ap (λ t. cmd.Send (record { go_on = s.send.go_on; to = s.send.to; with = s.send.with; payload = t })) ed
              ∙ sym s.same);
        }
