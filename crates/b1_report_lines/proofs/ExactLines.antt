-- The lines without a command are read exactly, and are no calls.
use Rattle.std.specs.Prelude.{codes}
use Rattle.std.proofs.Common.{◌≡◌, ℕ, ◌<◌, Option, Some, None, ◌≤◌, Bool, true, false, cond, ltb, List, [], ◌∷◌, ◌++◌, Result, Ok, Err, refl, sym, ap, subst, ◌∙◌, arith, inl, inr, ◌⊎◌}
use Rattle.std.proofs.lemmas.Bool.{ltb-true, ltb-false}
use Rattle.std.proofs.lemmas.List.{append_assoc, append-nil}
use Rattle.std.proofs.lemmas.Fmt.{decimal_digit}
use Rattle.std.specs.Fmt.{decimal}
use Rattle.b1_model.specs.declared.commands.Command.{Command}
use Rattle.b1_model.specs.declared.commands.Command.TheVariants as cmd
use Rattle.b1_model.specs.declared.records.Call.{Call}
use Rattle.b1_model.specs.Versions.{version_of}
use Rattle.b1_model.specs.declared.version.Version.{Version}
use Rattle.b1_model.specs.declared.version.Version.TheVariants.{One, Two}
use Rattle.b1_text_words.specs.Commands.{command_text}
use Rattle.b1_report_lines.specs.declared.lines.Line.{Line}
use Rattle.b1_report_lines.specs.declared.lines.Line.TheVariants as line
use Rattle.b1_report_lines.specs.declared.lines.Place.{Place}
use Rattle.b1_report_lines.specs.declared.lines.Place.TheVariants as place
use Rattle.b1_report_lines.specs.declared.unread.Stop.TheVariants.{Cut, Broken}
use Rattle.b1_report_lines.specs.declared.unread.Unread.{Unread}
use Rattle.b1_report_lines.specs.declared.unread.Unread.TheVariants.{Stopped, Memory}
use Rattle.b1_report_lines.specs.Answers.{Is64, answer_text}
use Rattle.b1_report_lines.specs.Forms.{long_at}
use Rattle.b1_report_lines.specs.Lines.{Cookies, IsCall, call_line, call_words, count_line, header_line, next_cookie, line_text, MayStand, IsLineText, BeginLine, IsOnlyLine, TellsLine, TellsCall}
use Rattle.b1_report_lines.specs.Markers.{fixed_at, peer_words, peer_at, marker_at}
use Rattle.b1_report_lines.specs.Reading.{Read, Gives, behind, joined, only}
use Rattle.b1_report_lines.proofs.Exact.{IsExact, converted, mapped_exact, only_exact, behind_exact}
use Rattle.b1_report_lines.proofs.ExactReasons.{long_exact, long_then, space}

-- a reader of lines at one place reads those that may stand there, or some of them
module _ (cookies : Cookies) (peers : ℕ) (spot : Place) (read : List ℕ → Read Line) (exact : IsExact read (line_text cookies peers spot) (MayStand cookies peers spot)) where
  line_read : (bytes : List ℕ) (next : Line) → IsLineText cookies peers spot bytes next → read bytes ≡ Ok next
  line_read bytes next h = ap read h.spelled ∙ exact.again next h.may

  one_line : (bytes : List ℕ) (x y : Line) → read bytes ≡ Ok x → IsLineText cookies peers spot bytes y → y ≡ x
  one_line bytes x y e h = let r : read bytes ≡ Ok y = line_read bytes y h in cc

  not_cut : (bytes : List ℕ) (next : Line) → read bytes ≡ Err Cut → IsLineText cookies peers spot bytes next → ⊥
  not_cut bytes next e h = let r : read bytes ≡ Ok next = line_read bytes next h in cc

  not_broken : (bytes : List ℕ) → read bytes ≡ Err Broken → BeginLine cookies peers spot bytes → ⊥
  not_broken bytes e h =
      let r : read (bytes ++ h.rest) ≡ Ok h.next = line_read (bytes ++ h.rest) h.next h.whole in
      let s : read (bytes ++ h.rest) ≡ Err Broken = exact.stable bytes h.rest e in
      cc

  pub tells : (bytes : List ℕ) (r : Result Line Unread) → Gives (λ x. x) r (read bytes) → TellsLine cookies peers spot bytes r
  tells bytes (Ok next) h =
      let t = exact.takes bytes next h in
      record { is_line = record { may = t.1; spelled = t.0 }; only = λ other k. one_line bytes next other h k }
  tells bytes (Err Memory) h = tt
  tells bytes (Err (Stopped Cut)) h =
      let c = exact.cut bytes h in
      (record { rest = c.0; next = c.1; whole = record { may = c.2.1; spelled = c.2.0 } }, λ next k. not_cut bytes next h k)
  tells bytes (Err (Stopped Broken)) h = λ k. not_broken bytes h k

fixed_exact : (word : List ℕ) (next : Line) → IsExact (fixed_at word next) (λ l. word ++ []) (λ l. l ≡ next)
fixed_exact word next = behind_exact word (only next) (λ l. []) (λ l. l ≡ next) (only_exact next)

-- the first line, whatever its version is
header_as : (version : Version) (word bytes : List ℕ) (r : Result Line Unread) → header_line version ≡ word → Gives (λ x. x) r (fixed_at word line.Header bytes) → Gives (λ x. x) r (fixed_at (header_line version) line.Header bytes)
header_as version word bytes r e h = subst (λ (w : List ℕ). Gives (λ x. x) r (fixed_at w line.Header bytes)) (sym e) h

pub header_one : (version : Version) (bytes : List ℕ) (r : Result Line Unread) → version ≡ One → Gives (λ x. x) r (fixed_at (codes "bus1 report 1") line.Header bytes) → Gives (λ x. x) r (fixed_at (header_line version) line.Header bytes)
header_one version bytes r e h =
    header_as version (codes "bus1 report 1") bytes r (ap header_line e ∙ ap (λ (d : List ℕ). codes "bus1 report " ++ d) (decimal_digit 1 (omega arith))) h

pub header_two : (version : Version) (bytes : List ℕ) (r : Result Line Unread) → version ≡ Two → Gives (λ x. x) r (fixed_at (codes "bus1 report 2") line.Header bytes) → Gives (λ x. x) r (fixed_at (header_line version) line.Header bytes)
header_two version bytes r e h =
    header_as version (codes "bus1 report 2") bytes r (ap header_line e ∙ ap (λ (d : List ℕ). codes "bus1 report " ++ d) (decimal_digit 2 (omega arith))) h

header_text : (cookies : Cookies) (peers : ℕ) (l : Line) → l ≡ line.Header → header_line (version_of cookies) ++ [] ≡ line_text cookies peers place.Header l
header_text cookies peers l h = rw h (append-nil (header_line (version_of cookies)))

header_there : (cookies : Cookies) (peers : ℕ) (l : Line) → l ≡ line.Header → MayStand cookies peers place.Header l
header_there cookies peers l h = rw h tt

header_back : (cookies : Cookies) (peers : ℕ) (l : Line) → MayStand cookies peers place.Header l → l ≡ line.Header
header_back cookies peers line.Header h = refl
header_back cookies peers line.Count h = absurd h
header_back cookies peers (line.Peer epoch clock) h = absurd h
header_back cookies peers (line.Call call) h = absurd h
header_back cookies peers line.End h = absurd h

header_exact : (cookies : Cookies) (peers : ℕ) → IsExact (fixed_at (header_line (version_of cookies)) line.Header) (line_text cookies peers place.Header) (MayStand cookies peers place.Header)
header_exact cookies peers =
    converted (fixed_at (header_line (version_of cookies)) line.Header) (λ l. header_line (version_of cookies) ++ []) (line_text cookies peers place.Header) (λ l. l ≡ line.Header) (MayStand cookies peers place.Header)
    (fixed_exact (header_line (version_of cookies)) line.Header) (header_text cookies peers) (header_there cookies peers) (header_back cookies peers)

pub header_tells : (cookies : Cookies) (peers : ℕ) (bytes : List ℕ) (version : Version) (r : Result Line Unread) → version ≡ version_of cookies
    → Gives (λ x. x) r (fixed_at (header_line version) line.Header bytes) → TellsLine cookies peers place.Header bytes r
header_tells cookies peers bytes version r same h =
    tells cookies peers place.Header (fixed_at (header_line (version_of cookies)) line.Header) (header_exact cookies peers) bytes r
    (subst (λ (v : Version). Gives (λ x. x) r (fixed_at (header_line v) line.Header bytes)) same h)

count_text : (cookies : Cookies) (peers : ℕ) (l : Line) → l ≡ line.Count → count_line peers ++ [] ≡ line_text cookies peers place.Count l
count_text cookies peers l h = rw h (append-nil (count_line peers))

count_there : (cookies : Cookies) (peers : ℕ) (l : Line) → l ≡ line.Count → MayStand cookies peers place.Count l
count_there cookies peers l h = rw h tt

count_back : (cookies : Cookies) (peers : ℕ) (l : Line) → MayStand cookies peers place.Count l → l ≡ line.Count
count_back cookies peers line.Header h = absurd h
count_back cookies peers line.Count h = refl
count_back cookies peers (line.Peer epoch clock) h = absurd h
count_back cookies peers (line.Call call) h = absurd h
count_back cookies peers line.End h = absurd h

count_exact : (cookies : Cookies) (peers : ℕ) → IsExact (fixed_at (count_line peers) line.Count) (line_text cookies peers place.Count) (MayStand cookies peers place.Count)
count_exact cookies peers =
    converted (fixed_at (count_line peers) line.Count) (λ l. count_line peers ++ []) (line_text cookies peers place.Count) (λ l. l ≡ line.Count) (MayStand cookies peers place.Count)
    (fixed_exact (count_line peers) line.Count) (count_text cookies peers) (count_there cookies peers) (count_back cookies peers)

pub count_tells : (cookies : Cookies) (peers : ℕ) (bytes : List ℕ) (r : Result Line Unread) → Gives (λ x. x) r (fixed_at (count_line peers) line.Count bytes) → TellsLine cookies peers place.Count bytes r
count_tells cookies peers = tells cookies peers place.Count (fixed_at (count_line peers) line.Count) (count_exact cookies peers)

pub done_tells : (cookies : Cookies) (peers : ℕ) (bytes : List ℕ) → BeginLine cookies peers place.Done bytes → ⊥
done_tells cookies peers bytes h = nothing h.next h.whole.may where
  nothing : (l : Line) → MayStand cookies peers place.Done l → ⊥
  nothing line.Header k = k
  nothing line.Count k = k
  nothing (line.Peer epoch clock) k = k
  nothing (line.Call call) k = k
  nothing line.End k = k

-- ---- behind the number of peers

abbrev IsMarker : ℕ → ℕ → Line → Type 0
IsMarker peers begun (line.Peer epoch clock) = (begun < peers) × (Is64 epoch × Is64 clock)
IsMarker peers begun line.End = begun ≡ peers
IsMarker peers begun next = ⊥

abbrev IsPeerLine : Line → Type 0
IsPeerLine (line.Peer epoch clock) = Is64 epoch × Is64 clock
IsPeerLine next = ⊥

abbrev At : ℕ → ℕ → Place
At begun calls = place.Peers begun calls

peer_onto : (l : Line) → IsPeerLine l → (v : ℕ × ℕ) × (Is64 v.0 × Is64 v.1) × (line.Peer v.0 v.1 ≡ l)
peer_onto line.Header h = absurd h
peer_onto line.Count h = absurd h
peer_onto (line.Peer epoch clock) h = ((epoch, clock), h, refl)
peer_onto (line.Call call) h = absurd h
peer_onto line.End h = absurd h

peer_exact : (cookies : Cookies) (peers begun calls : ℕ) → IsExact (peer_at begun) (line_text cookies peers (At begun calls)) IsPeerLine
unfolding peer_at
peer_exact cookies peers begun calls =
    let clock = behind_exact (codes "clock ") long_at decimal Is64 long_exact in
    let both = long_then 32 (behind (codes "clock ") long_at) (λ n. codes "clock " ++ decimal n) Is64 space clock in
    let whole = behind_exact (peer_words begun) (joined 32 long_at (behind (codes "clock ") long_at)) (λ v. decimal v.0 ++ 32 ∷ (codes "clock " ++ decimal v.1)) (λ v. Is64 v.0 × Is64 v.1) both in
    mapped_exact (λ v. line.Peer v.0 v.1) (behind (peer_words begun) (joined 32 long_at (behind (codes "clock ") long_at))) (λ v. peer_words begun ++ (decimal v.0 ++ 32 ∷ (codes "clock " ++ decimal v.1))) (line_text cookies peers (At begun calls)) (λ v. Is64 v.0 × Is64 v.1) IsPeerLine
    whole (λ v h. simp append_assoc) (λ v h. h) peer_onto

end_text : (cookies : Cookies) (peers begun calls : ℕ) (l : Line) → l ≡ line.End → codes "end" ++ [] ≡ line_text cookies peers (At begun calls) l
end_text cookies peers begun calls l h = rw h refl

peer_marker : (peers begun : ℕ) → begun < peers → (l : Line) → IsPeerLine l → IsMarker peers begun l
peer_marker peers begun lt line.Header h = absurd h
peer_marker peers begun lt line.Count h = absurd h
peer_marker peers begun lt (line.Peer epoch clock) h = (lt, h)
peer_marker peers begun lt (line.Call call) h = absurd h
peer_marker peers begun lt line.End h = absurd h

marker_peer : (peers begun : ℕ) → begun < peers → (l : Line) → IsMarker peers begun l → IsPeerLine l
marker_peer peers begun lt line.Header h = absurd h
marker_peer peers begun lt line.Count h = absurd h
marker_peer peers begun lt (line.Peer epoch clock) h = h.1
marker_peer peers begun lt (line.Call call) h = absurd h
marker_peer peers begun lt line.End h = absurd (omega (arith, h, lt))

end_marker : (peers begun : ℕ) → begun ≡ peers → (l : Line) → l ≡ line.End → IsMarker peers begun l
end_marker peers begun e l h = rw h e

marker_end : (peers begun : ℕ) → begun ≡ peers → (l : Line) → IsMarker peers begun l → l ≡ line.End
marker_end peers begun e line.Header h = absurd h
marker_end peers begun e line.Count h = absurd h
marker_end peers begun e (line.Peer epoch clock) h = absurd (omega (arith, h.0, e))
marker_end peers begun e (line.Call call) h = absurd h
marker_end peers begun e line.End h = refl

marker_exact : (cookies : Cookies) (peers begun calls : ℕ) → begun ≤ peers → IsExact (marker_at peers begun) (line_text cookies peers (At begun calls)) (IsMarker peers begun)
unfolding marker_at
marker_exact cookies peers begun calls le = at (ltb begun peers) refl where
  at : (v : Bool) → ltb begun peers ≡ v → IsExact (λ b. cond (ltb begun peers) (peer_at begun b) (fixed_at (codes "end") line.End b)) (line_text cookies peers (At begun calls)) (IsMarker peers begun)
  at true e =
      let lt : begun < peers = ltb-true begun peers e in
      subst (λ (w : Bool). IsExact (λ b. cond w (peer_at begun b) (fixed_at (codes "end") line.End b)) (line_text cookies peers (At begun calls)) (IsMarker peers begun)) (sym e)
      (converted (peer_at begun) (line_text cookies peers (At begun calls)) (line_text cookies peers (At begun calls)) IsPeerLine (IsMarker peers begun) (peer_exact cookies peers begun calls) (λ l h. refl) (peer_marker peers begun lt) (marker_peer peers begun lt))
  at false e =
      let same : begun ≡ peers = omega (arith, ltb-false begun peers e, le) in
      subst (λ (w : Bool). IsExact (λ b. cond w (peer_at begun b) (fixed_at (codes "end") line.End b)) (line_text cookies peers (At begun calls)) (IsMarker peers begun)) (sym e)
      (converted (fixed_at (codes "end") line.End) (λ l. codes "end" ++ []) (line_text cookies peers (At begun calls)) (λ l. l ≡ line.End) (IsMarker peers begun) (fixed_exact (codes "end") line.End) (end_text cookies peers begun calls) (end_marker peers begun same) (marker_end peers begun same))

-- a call's line begins neither like a peer's nor like the end
peer_apart : (begun : ℕ) (c : Command) (rest : List ℕ) → peer_at begun (command_text c ++ rest) ≡ Err Broken
unfolding peer_at
peer_apart begun cmd.Disconnect rest = refl
peer_apart begun cmd.Query rest = refl
peer_apart begun (cmd.Reset limits) rest = refl
peer_apart begun (cmd.Limit limits) rest = refl
peer_apart begun (cmd.Release number) rest = refl
peer_apart begun (cmd.Destroy numbers) rest = refl
peer_apart begun (cmd.SliceRelease offset) rest = refl
peer_apart begun (cmd.Send send) rest = at send.go_on where
  at : (v : Bool) → peer_at begun (command_text (cmd.Send (record send { go_on = v })) ++ rest) ≡ Err Broken
  at true = refl
  at false = refl
peer_apart begun cmd.Recv rest = refl
peer_apart begun cmd.Await rest = refl

end_apart : (c : Command) (rest : List ℕ) → fixed_at (codes "end") line.End (command_text c ++ rest) ≡ Err Broken
end_apart cmd.Disconnect rest = refl
end_apart cmd.Query rest = refl
end_apart (cmd.Reset limits) rest = refl
end_apart (cmd.Limit limits) rest = refl
end_apart (cmd.Release number) rest = refl
end_apart (cmd.Destroy numbers) rest = refl
end_apart (cmd.SliceRelease offset) rest = refl
end_apart (cmd.Send send) rest = at send.go_on where
  at : (v : Bool) → fixed_at (codes "end") line.End (command_text (cmd.Send (record send { go_on = v })) ++ rest) ≡ Err Broken
  at true = refl
  at false = refl
end_apart cmd.Recv rest = refl
end_apart cmd.Await rest = refl

words_apart : (peers begun : ℕ) (c : Call) → marker_at peers begun (call_words c) ≡ Err Broken
unfolding marker_at
words_apart peers begun c =
    let words : call_words c ≡ command_text c.command ++ (codes " = " ++ answer_text c.command c.answer) = append_assoc (command_text c.command) (codes " = ") (answer_text c.command c.answer) in
    ap (marker_at peers begun) words ∙ at (ltb begun peers) where
      at : (v : Bool) → cond v (peer_at begun (command_text c.command ++ (codes " = " ++ answer_text c.command c.answer))) (fixed_at (codes "end") line.End (command_text c.command ++ (codes " = " ++ answer_text c.command c.answer))) ≡ Err Broken
      at true = peer_apart begun c.command (codes " = " ++ answer_text c.command c.answer)
      at false = end_apart c.command (codes " = " ++ answer_text c.command c.answer)

call_apart : (peers begun : ℕ) (cookie : Option ℕ) (c : Call) → marker_at peers begun (call_line cookie c) ≡ Err Broken
unfolding marker_at peer_at
call_apart peers begun None c = words_apart peers begun c
call_apart peers begun (Some n) c = at (ltb begun peers) where
  at : (v : Bool) → cond v (peer_at begun (call_line (Some n) c)) (fixed_at (codes "end") line.End (call_line (Some n) c)) ≡ Err Broken
  at true = refl
  at false = refl

-- a line behind the number of peers is a marker, or a call behind a peer
abbrev Either : Cookies → ℕ → ℕ → ℕ → List ℕ → Line → Type 0
Either cookies peers begun calls bytes l = (IsMarker peers begun l × (bytes ≡ line_text cookies peers (At begun calls) l)) ⊎ ((c : Call) × ((0 < begun) × IsCall (version_of cookies) c × (bytes ≡ call_line (next_cookie cookies begun calls) c)) × (l ≡ line.Call c))

either : (cookies : Cookies) (peers begun calls : ℕ) (bytes : List ℕ) (l : Line) → MayStand cookies peers (At begun calls) l → bytes ≡ line_text cookies peers (At begun calls) l → Either cookies peers begun calls bytes l
either cookies peers begun calls bytes line.Header h e = absurd h
either cookies peers begun calls bytes line.Count h e = absurd h
either cookies peers begun calls bytes (line.Peer epoch clock) h e = inl (h, e)
either cookies peers begun calls bytes (line.Call call) h e = inr (call, (h.0, h.1, e), refl)
either cookies peers begun calls bytes line.End h e = inl (h, e)

may_marker : (cookies : Cookies) (peers begun calls : ℕ) (l : Line) → IsMarker peers begun l → MayStand cookies peers (At begun calls) l
may_marker cookies peers begun calls line.Header h = absurd h
may_marker cookies peers begun calls line.Count h = absurd h
may_marker cookies peers begun calls (line.Peer epoch clock) h = h
may_marker cookies peers begun calls (line.Call call) h = absurd h
may_marker cookies peers begun calls line.End h = h

module _ (cookies : Cookies) (peers begun calls : ℕ) (le : begun ≤ peers) where
  marked : (bytes : List ℕ) (l : Line) → IsMarker peers begun l → bytes ≡ line_text cookies peers (At begun calls) l → marker_at peers begun bytes ≡ Ok l
  marked bytes l h e = ap (marker_at peers begun) e ∙ (marker_exact cookies peers begun calls le).again l h

  called : (bytes : List ℕ) (c : Call) → bytes ≡ call_line (next_cookie cookies begun calls) c → marker_at peers begun bytes ≡ Err Broken
  called bytes c e = ap (marker_at peers begun) e ∙ call_apart peers begun (next_cookie cookies begun calls) c

  -- what is read as a marker is no other line
  only_marker : (bytes : List ℕ) (l other : Line) → marker_at peers begun bytes ≡ Ok l → IsLineText cookies peers (At begun calls) bytes other → other ≡ l
  only_marker bytes l other e h = elim (either cookies peers begun calls bytes other h.may h.spelled) [
    | inl k ↦ let r : marker_at peers begun bytes ≡ Ok other = marked bytes other k.0 k.1 in cc
    | inr k ↦ let r : marker_at peers begun bytes ≡ Err Broken = called bytes k.0 k.1.2 in absurd cc
  ]

  pub marker_ok : (bytes : List ℕ) (l : Line) → marker_at peers begun bytes ≡ Ok l → IsOnlyLine cookies peers (At begun calls) bytes l
  marker_ok bytes l e =
      let t = (marker_exact cookies peers begun calls le).takes bytes l e in
      record { is_line = record { may = may_marker cookies peers begun calls l t.1; spelled = t.0 }; only = λ other h. only_marker bytes l other e h }

  no_line_cut : (bytes : List ℕ) (l : Line) → marker_at peers begun bytes ≡ Err Cut → IsLineText cookies peers (At begun calls) bytes l → ⊥
  no_line_cut bytes l e h = elim (either cookies peers begun calls bytes l h.may h.spelled) [
    | inl k ↦ let r : marker_at peers begun bytes ≡ Ok l = marked bytes l k.0 k.1 in cc
    | inr k ↦ let r : marker_at peers begun bytes ≡ Err Broken = called bytes k.0 k.1.2 in cc
  ]

  pub marker_cut : (bytes : List ℕ) → marker_at peers begun bytes ≡ Err Cut → BeginLine cookies peers (At begun calls) bytes × ((l : Line) → ¬ (IsLineText cookies peers (At begun calls) bytes l))
  marker_cut bytes e =
      let c = (marker_exact cookies peers begun calls le).cut bytes e in
      (record { rest = c.0; next = c.1; whole = record { may = may_marker cookies peers begun calls c.1 c.2.1; spelled = c.2.0 } }, λ l h. no_line_cut bytes l e h)

  -- what is no marker is a call
  is_call : (bytes t : List ℕ) (l : Line) → marker_at peers begun bytes ≡ Err Broken → IsLineText cookies peers (At begun calls) (bytes ++ t) l → (c : Call) × ((0 < begun) × IsCall (version_of cookies) c × (bytes ++ t ≡ call_line (next_cookie cookies begun calls) c)) × (l ≡ line.Call c)
  is_call bytes t l e h = elim (either cookies peers begun calls (bytes ++ t) l h.may h.spelled) [
    | inl k ↦
        let r : marker_at peers begun (bytes ++ t) ≡ Ok l = marked (bytes ++ t) l k.0 k.1 in
        let s : marker_at peers begun (bytes ++ t) ≡ Err Broken = (marker_exact cookies peers begun calls le).stable bytes t e in
        absurd cc
    | inr k ↦ k
  ]

  whole_call : (bytes : List ℕ) (l : Line) → marker_at peers begun bytes ≡ Err Broken → IsLineText cookies peers (At begun calls) bytes l → (c : Call) × ((0 < begun) × IsCall (version_of cookies) c × (bytes ≡ call_line (next_cookie cookies begun calls) c)) × (l ≡ line.Call c)
  whole_call bytes l e h = elim (either cookies peers begun calls bytes l h.may h.spelled) [
    | inl k ↦ let r : marker_at peers begun bytes ≡ Ok l = marked bytes l k.0 k.1 in absurd cc
    | inr k ↦ k
  ]

  pub call_ok : (bytes : List ℕ) (c : Call) → 0 < begun → marker_at peers begun bytes ≡ Err Broken → TellsCall (version_of cookies) (next_cookie cookies begun calls) bytes (Ok c) → IsOnlyLine cookies peers (At begun calls) bytes (line.Call c)
  call_ok bytes c some e h = record {
    is_line = record { may = (some, h.0.0); spelled = h.0.1 };
    only = λ other k. let x = whole_call bytes other e k in x.2 ∙ ap (λ y. line.Call y) (h.1 x.0 x.1.1 x.1.2);
  }

  pub call_err : (bytes : List ℕ) (why : Unread) → 0 < begun → marker_at peers begun bytes ≡ Err Broken → TellsCall (version_of cookies) (next_cookie cookies begun calls) bytes (Err why) → TellsLine cookies peers (At begun calls) bytes (Err why)
  call_err bytes Memory some e h = tt
  call_err bytes (Stopped Cut) some e h = (
    record { rest = h.0.0; next = line.Call h.0.1; whole = record { may = (some, h.0.2.0); spelled = h.0.2.1 } },
    λ l k. let x = whole_call bytes l e k in h.1 x.0 x.1.1 x.1.2,
  )
  call_err bytes (Stopped Broken) some e h = λ k. let x = is_call bytes k.rest k.next e k.whole in h k.rest x.0 x.1.1 x.1.2

  pub call_none : (bytes : List ℕ) → begun ≡ 0 → marker_at peers begun bytes ≡ Err Broken → BeginLine cookies peers (At begun calls) bytes → ⊥
  call_none bytes none e k = let x = is_call bytes k.rest k.next e k.whole in omega (arith, x.1.0, none)

-- the version and the cookie that a call is read with
pub tells_as : (version version' : Version) (cookie cookie' : Option ℕ) (bytes : List ℕ) (r : Result Call Unread) → version ≡ version' → cookie ≡ cookie' → TellsCall version cookie bytes r → TellsCall version' cookie' bytes r
tells_as version version' cookie cookie' bytes r same same' h =
    subst (λ (v : Version). TellsCall v cookie' bytes r) same (subst (λ (o : Option ℕ). TellsCall version o bytes r) same' h)
