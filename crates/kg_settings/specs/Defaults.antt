-- The settings of a node that is told nothing else (this project's own: docs/BEHAVIOUR.md, "Settings of a node").
use Rattle.kg_settings.specs.declared.settings.Settings.{Settings}

abbrev pub default_settings : Settings
default_settings = record {
  workers = 4;
  ttl = 0;
  neg_ttl = 0;
  stale = 30000;
  local = 1024;
  shared = 16384;
  feed = 4096;
  rows = 100000;
  requests = 1000;
}
