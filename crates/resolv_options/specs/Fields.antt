-- The values that the fields of the options hold.
use Rattle.resolv_options.specs.Values.{OptionValues}
use Rattle.resolv_options.specs.declared.options.Options.TheInside.{Inside}

-- the values of these fields
abbrev pub values_of : Inside → OptionValues
values_of fields = record {
  servers = fields.servers;
  domains = fields.domains;
  ndots = fields.ndots;
  tries = fields.tries;
  timeout = fields.timeout;
  max_timeout = fields.max_timeout;
  flags = fields.flags;
  rotate = fields.rotate;
  lookups = fields.lookups;
  edns_size = fields.edns_size;
  sources = fields.sources;
}
