-- The values that the fields of settings hold.
use Rattle.tool_line.specs.Settings.{SettingValues}
use Rattle.tool_line.specs.declared.settings.Settings.TheInside.{Inside}

-- the values of these fields
abbrev pub values_of : Inside → SettingValues
values_of fields = record {
  servers = fields.servers;
  port = fields.port;
  timeout = fields.timeout;
  tries = fields.tries;
  sources = fields.sources;
  switches = fields.switches;
}
