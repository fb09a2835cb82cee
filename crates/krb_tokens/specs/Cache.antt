-- The keys of an end that are kept for the tokens of many messages.
use Rattle.std.specs.Prelude.{Option, Some, None}
use Rattle.krb_tokens.specs.declared.end.TokenEnd.{TokenEnd}
use Rattle.krb_tokens.specs.declared.mic_keys.MicKeys.{MicKeys}
use Rattle.krb_tokens.specs.declared.wrap_keys.WrapKeys.{WrapKeys}
use Rattle.krb_tokens.specs.declared.cache.KeyCache.{KeyCache}

-- the end whose checksum keys these are, none if no keys are kept
abbrev pub end_of_keys : Option MicKeys → Option TokenEnd
end_of_keys None = None
end_of_keys (Some keys) = Some keys.end

-- the end whose checksum keys are kept
abbrev pub kept_end : KeyCache → Option TokenEnd
kept_end cache = end_of_keys cache.kept

-- the end whose sealing keys these are, none if no keys are kept
abbrev pub end_of_sealing : Option WrapKeys → Option TokenEnd
end_of_sealing None = None
end_of_sealing (Some keys) = Some keys.end

-- the end whose sealing keys are kept
abbrev pub sealing_end : KeyCache → Option TokenEnd
sealing_end cache = end_of_sealing cache.sealing
