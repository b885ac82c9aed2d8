-- What stands behind the first word of a line, cut at its spaces.
use Rattle.std.specs.Prelude.{ℕ, List, ◌∷◌, ◌++◌, codes}
use Rattle.std.specs.Fmt.{decimal}
use Rattle.b1_model.specs.declared.commands.Command.{Command}
use Rattle.b1_model.specs.declared.naming.Limits.{Limits}
use Rattle.b1_model.specs.declared.naming.PeerSpec.{PeerSpec}
use Rattle.b1_model.specs.declared.naming.Wire.{Wire}
use Rattle.b1_model.specs.declared.version.Version.TheVariants.{Two}
use Rattle.b1_records.specs.Spelling.{Is32, Is64, AreLimits}
use Rattle.b1_text_words.specs.declared.items.Form.TheVariants.{Script as in_script}
use Rattle.b1_text_words.specs.Commands.{command_text_in, IsCommand}
use Rattle.b1_text_words.specs.Numbers.{script_handle_text}

abbrev pub space : ℕ
space = 32

-- two numbers
abbrev pub two_text : ℕ × ℕ → List ℕ
two_text x = decimal x.0 ++ space ∷ decimal x.1

pub record AreTwo (x : ℕ × ℕ) : Type 0 where
  pub first : Is32 x.0
  pub second : Is32 x.1

-- the limits of a peer
abbrev pub limits_body : Limits → List ℕ
limits_body l = decimal l.entries ++ space ∷ two_text (l.bytes, l.handles)

-- a pool and the limits
abbrev pub pool_body : ℕ × Limits → List ℕ
pool_body x = decimal x.0 ++ space ∷ limits_body x.1

pub record IsPoolWithLimits (x : ℕ × Limits) : Type 0 where
  pub pool : Is32 x.0
  pub limits : AreLimits x.1

-- a peer
abbrev pub peer_body : PeerSpec → List ℕ
peer_body p = decimal p.user ++ space ∷ pool_body (p.pool, p.limits)

-- a wire's number, and to whom it leads
abbrev pub end_body : ℕ × ℕ → List ℕ
end_body x = script_handle_text x.0 ++ space ∷ decimal x.1

pub record IsEnd (x : ℕ × ℕ) : Type 0 where
  pub number : Is64 x.0
  pub to : Is32 x.1

-- a wire
abbrev pub wire_body : Wire → List ℕ
wire_body w = decimal w.from ++ space ∷ end_body (w.number, w.to)

-- a cookie's word
abbrev pub cookie_word : ℕ → List ℕ
cookie_word n = codes "#" ++ decimal n

-- a cookie and its command
abbrev pub marked_body : ℕ × Command → List ℕ
marked_body x = cookie_word x.0 ++ space ∷ command_text_in in_script x.1

pub record IsMarked (x : ℕ × Command) : Type 0 where
  pub cookie : Is64 x.0
  pub command : IsCommand in_script Two x.1
